use Rattle.mp_term.proofs.Laws.{weakening_by_nothing, weakenings_compose}
use Rattle.mp_term.proofs.law.weakening_laws.Goals as goal

pub returns-clause-nothing : goal.returns-clause-nothing
returns-clause-nothing c = weakening_by_nothing

pub returns-clause-composed : goal.returns-clause-composed
returns-clause-composed c = weakenings_compose
