use Rattle.std.proofs.Common.{◌≡◌, ◌<◌, ◌^◌, drop, map, max}
use Rattle.mp_logic.specs.Trees.{counted}
use Rattle.mp_logic.specs.Lists.{greatest}
use Rattle.mp_schema.specs.Limits.{pattern_depth_of, pattern_depth_of_bound}
use Rattle.mp_schema.proofs.measures.+deep.Given as goal

abbrev pub invariant-deepest_argument-loop-arg : goal.invariant-deepest_argument-loop-arg
invariant-deepest_argument-loop-arg l =
    (l.deepest < 2 ^ 64) × (counted (max l.deepest (greatest (map pattern_depth_of (drop l.arg-index l.args)))) ≡ counted (greatest (map pattern_depth_of l.args)))

abbrev pub invariant-deepest_body-loop-sub : goal.invariant-deepest_body-loop-sub
invariant-deepest_body-loop-sub l =
    (l.deepest < 2 ^ 64) × (counted (max l.deepest (greatest (map pattern_depth_of_bound (drop l.sub-index l.subs)))) ≡ counted (greatest (map pattern_depth_of_bound l.subs)))
