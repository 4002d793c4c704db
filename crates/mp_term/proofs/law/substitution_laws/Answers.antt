use Rattle.mp_term.proofs.Laws.{substitution_after_weakening, substitution_lemma, substitution_of_variables, weakening_after_substitution, weakening_is_substitution}
use Rattle.mp_term.proofs.law.substitution_laws.Goals as goal

pub returns-clause-after_weakening : goal.returns-clause-after_weakening
returns-clause-after_weakening c = substitution_after_weakening

pub returns-clause-before_weakening : goal.returns-clause-before_weakening
returns-clause-before_weakening c = weakening_after_substitution

pub returns-clause-composed : goal.returns-clause-composed
returns-clause-composed c = substitution_lemma

pub returns-clause-identity : goal.returns-clause-identity
returns-clause-identity c = substitution_of_variables

pub returns-clause-weakening : goal.returns-clause-weakening
returns-clause-weakening c = weakening_is_substitution
