use Rattle.std.proofs.Common.{◌≡◌, ◌+◌, ◌<◌, ◌^◌, drop, map, sum}
use Rattle.mp_logic.specs.Trees.{counted}
use Rattle.mp_schema.specs.Values.{instance_of}
use Rattle.mp_build.specs.Sizes.{item_count}
use Rattle.mp_build.proofs.limits.count_hyps.Given as goal

abbrev pub invariant-loop-item : goal.invariant-loop-item
invariant-loop-item l =
    let count = item_count (instance_of l.inst) in
    (l.total < 2 ^ 64) × (counted (l.total + sum (map count (drop l.item-index l.items))) ≡ counted (sum (map count l.items)))
