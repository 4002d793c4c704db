use Rattle.std.proofs.Common.{◌≡◌, drop}
use Rattle.std.specs.List.{flat_map}
use Rattle.mp_schema.specs.Conditions.{has}
use Rattle.mp_schema.specs.Occurrences.{holes_in_item}
use Rattle.mp_schema.proofs.holes.SchemaHoles.has_hole.Given as goal

abbrev pub invariant-loop-item : goal.invariant-loop-item
invariant-loop-item l =
    has (flat_map holes_in_item (drop l.item-index l.item-items)) l.name ≡ has (flat_map holes_in_item l.item-items) l.name
