use Rattle.std.proofs.Common.{◌≡◌, ◌+◌, ◌<◌, ◌^◌, drop, map, sum}
use Rattle.mp_logic.specs.Trees.{counted}
use Rattle.mp_patterntext.specs.Sizes.{raw_pattern_size_of, raw_bound_size_of}
use Rattle.mp_patterntext.proofs.size.+size.Given as goal

abbrev pub invariant-arguments_size-loop-arg : goal.invariant-arguments_size-loop-arg
invariant-arguments_size-loop-arg l = (l.total < 2 ^ 64) × (counted (l.total + sum (map raw_pattern_size_of (drop l.arg-index l.args))) ≡ counted (sum (map raw_pattern_size_of l.args)))

abbrev pub invariant-bounds_size-loop-sub : goal.invariant-bounds_size-loop-sub
invariant-bounds_size-loop-sub l = (l.total < 2 ^ 64) × (counted (l.total + sum (map raw_bound_size_of (drop l.sub-index l.subs))) ≡ counted (sum (map raw_bound_size_of l.subs)))
