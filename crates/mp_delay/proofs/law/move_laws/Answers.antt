use Rattle.mp_delay.proofs.Laws.{moves_compose, moves_of_occurrences, tidy_moves, weakening_is_a_move}
use Rattle.mp_delay.proofs.law.move_laws.Goals as goal

pub returns-clause-composed : goal.returns-clause-composed
returns-clause-composed c = moves_compose

pub returns-clause-tidied : goal.returns-clause-tidied
returns-clause-tidied c = tidy_moves

pub returns-clause-weakening : goal.returns-clause-weakening
returns-clause-weakening c = weakening_is_a_move

pub returns-clause-occurrences : goal.returns-clause-occurrences
returns-clause-occurrences c = moves_of_occurrences
