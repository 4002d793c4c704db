use Rattle.std.proofs.Common.{◌≡◌, ◌+◌, ◌<◌, ◌^◌, drop, map, sum}
use Rattle.mp_logic.specs.Trees.{counted}
use Rattle.mp_schema.specs.Limits.{item_size_of, schema_size_of}
use Rattle.mp_schema.proofs.measures.is_small.Given as goal

abbrev pub invariant-loop-item : goal.invariant-loop-item
invariant-loop-item l =
    (l.total < 2 ^ 64) × (counted (l.total + sum (map item_size_of (drop l.item-index l.item-items))) ≡ counted (schema_size_of l.s))
