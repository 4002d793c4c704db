use Rattle.std.proofs.Common.{◌≡◌, drop}
use Rattle.std.specs.List.{list_all}
use Rattle.mp_term.specs.Limits.{few_binders_of}
use Rattle.mp_term.proofs.sequent.sequent_few_binders.Given as goal

abbrev pub invariant-loop-hyp : goal.invariant-loop-hyp
invariant-loop-hyp l = list_all few_binders_of (drop l.hyp-index l.hyp-items) ≡ list_all few_binders_of l.hyp-items
