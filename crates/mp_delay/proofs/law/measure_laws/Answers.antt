use Rattle.mp_delay.proofs.Laws.{scope_after_moves, size_after_moves}
use Rattle.mp_delay.proofs.law.measure_laws.Goals as goal

pub returns-clause-size : goal.returns-clause-size
returns-clause-size c = size_after_moves

pub returns-clause-scope : goal.returns-clause-scope
returns-clause-scope c = scope_after_moves
