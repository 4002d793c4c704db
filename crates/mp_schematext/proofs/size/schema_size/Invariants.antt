use Rattle.std.proofs.Common.{◌≡◌, ◌+◌, ◌<◌, ◌^◌, drop, map, sum}
use Rattle.mp_logic.specs.Trees.{counted}
use Rattle.mp_schematext.specs.Statics.{raw_item_size_of, raw_schema_size_of}
use Rattle.mp_schematext.proofs.size.schema_size.Given as goal

abbrev pub invariant-loop-item : goal.invariant-loop-item
invariant-loop-item l = (l.total < 2 ^ 64) × (counted (l.total + sum (map raw_item_size_of (drop l.item-index l.item-items))) ≡ counted (raw_schema_size_of l.raw))
