use Rattle.mp_rewrite.proofs.Laws.{rewrite_law, one_rewriting, good_rewriting, count_of_rewriting, good_outcomes}
use Rattle.mp_rewrite.proofs.law.rewrite_law.Goals as goal

pub returns-clause-steps : goal.returns-clause-steps
returns-clause-steps c = λ rewrite place address goal' outcome whole good. rewrite_law rewrite place address goal' outcome whole good

pub returns-clause-one : goal.returns-clause-one
returns-clause-one c = λ rewrite place address goal' kids others whole step other. one_rewriting rewrite place address goal' kids others whole step other

pub returns-clause-good : goal.returns-clause-good
returns-clause-good c = λ rewrite place address goal' kids whole good step within. good_rewriting rewrite place address goal' kids whole good step within

pub returns-clause-count : goal.returns-clause-count
returns-clause-count c = λ rewrite place address goal' kids step. count_of_rewriting rewrite place address goal' kids step

pub returns-clause-outcomes : goal.returns-clause-outcomes
returns-clause-outcomes c = λ rewrite place address goal' kids e. good_outcomes rewrite place address goal' kids e
