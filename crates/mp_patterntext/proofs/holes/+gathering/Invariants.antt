use Rattle.std.proofs.Common.{◌≡◌, ◌++◌, drop}
use Rattle.std.specs.List.{flat_map}
use Rattle.mp_patterntext.specs.Uses.{raw_holes, raw_bound_holes}
use Rattle.mp_patterntext.proofs.holes.+gathering.Given as goal

abbrev pub invariant-gather_bound_holes-loop-sub : goal.invariant-gather_bound_holes-loop-sub
invariant-gather_bound_holes-loop-sub l = l.holes ++ flat_map raw_bound_holes (drop l.sub-index l.subs) ≡ l.fn.holes ++ flat_map raw_bound_holes l.subs

abbrev pub invariant-gather_argument_holes-loop-arg : goal.invariant-gather_argument_holes-loop-arg
invariant-gather_argument_holes-loop-arg l = l.holes ++ flat_map raw_holes (drop l.arg-index l.args) ≡ l.fn.holes ++ flat_map raw_holes l.args
