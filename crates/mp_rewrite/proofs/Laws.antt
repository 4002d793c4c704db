-- The laws of steps by rewrites, one term for each.
use Rattle.std.proofs.Common.{ap, length, ◌∙◌, List}
use Rattle.mp_term.specs.declared.sequent.Sequent.{Sequent}
use Rattle.mp_rewrite.specs.Laws.{RewriteLaw, OneRewriting, GoodRewriting, CountOfRewriting, GoodOutcomes}
use Rattle.mp_rewrite.proofs.Whole.{exactly, one_step, step_good, count_kids, outcomes_good}

pub rewrite_law : RewriteLaw
rewrite_law rewrite place address goal outcome whole good = exactly rewrite place address goal whole good outcome

pub one_rewriting : OneRewriting
one_rewriting rewrite place address goal kids others whole step other = one_step rewrite place address goal whole kids others step other

pub good_rewriting : GoodRewriting
good_rewriting rewrite place address goal kids whole good step within = step_good rewrite place address goal whole good kids step within

pub count_of_rewriting : CountOfRewriting
count_of_rewriting rewrite place address goal kids step =
    ap (λ (ks : List Sequent). length ks) step.kids_are ∙ count_kids rewrite place address goal step.at.scope step.instance

pub good_outcomes : GoodOutcomes
good_outcomes rewrite place address goal kids e = outcomes_good rewrite place address goal kids e
