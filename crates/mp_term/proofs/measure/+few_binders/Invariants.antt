use Rattle.std.proofs.Common.{◌≡◌, drop, map}
use Rattle.mp_term.specs.Terms.{all_true}
use Rattle.mp_term.specs.Limits.{few_binders_of, few_binders_step, few_binders_bound_step}
use Rattle.mp_term.specs.declared.term.Bound.{fold-Bound}
use Rattle.mp_term.proofs.measure.+few_binders.Given as goal

abbrev pub invariant-loop-sub : goal.invariant-loop-sub
invariant-loop-sub l = all_true (map (fold-Bound _ _ few_binders_step few_binders_bound_step) (drop l.sub-index l.sub-items)) ≡ few_binders_of l.fn.t
