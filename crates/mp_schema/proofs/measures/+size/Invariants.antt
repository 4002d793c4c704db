use Rattle.std.proofs.Common.{◌≡◌, ◌+◌, ◌<◌, ◌^◌, drop, map, sum}
use Rattle.mp_logic.specs.Trees.{counted}
use Rattle.mp_schema.specs.Limits.{pattern_size_of, pattern_size_of_bound}
use Rattle.mp_schema.proofs.measures.+size.Given as goal

abbrev pub invariant-size_of_arguments-loop-arg : goal.invariant-size_of_arguments-loop-arg
invariant-size_of_arguments-loop-arg l =
    (l.total < 2 ^ 64) × (counted (l.total + sum (map pattern_size_of (drop l.arg-index l.args))) ≡ counted (sum (map pattern_size_of l.args)))

abbrev pub invariant-size_of_bodies-loop-sub : goal.invariant-size_of_bodies-loop-sub
invariant-size_of_bodies-loop-sub l =
    (l.total < 2 ^ 64) × (counted (l.total + sum (map pattern_size_of_bound (drop l.sub-index l.subs))) ≡ counted (sum (map pattern_size_of_bound l.subs)))
