use Rattle.std.proofs.Common.{◌≡◌, ◌++◌, drop}
use Rattle.std.specs.List.{flat_map}
use Rattle.mp_schematext.specs.Uses.{raw_item_holes}
use Rattle.mp_schematext.proofs.holes.gather_schema.Given as goal

abbrev pub invariant-loop-item : goal.invariant-loop-item
invariant-loop-item l = l.holes ++ flat_map raw_item_holes (drop l.item-index l.item-items) ≡ l.fn.holes ++ flat_map raw_item_holes l.item-items
