use Rattle.std.proofs.Common.{◌≡◌, drop}
use Rattle.std.specs.List.{flat_map}
use Rattle.mp_schema.specs.Conditions.{has_all}
use Rattle.mp_schema.specs.Occurrences.{holes_in_item}
use Rattle.mp_schema.proofs.holes.is_schema_filled.Given as goal

abbrev pub invariant-loop-item : goal.invariant-loop-item
invariant-loop-item g l =
    has_all (g.H.Holes.holes l.known) (flat_map holes_in_item (drop l.item-index l.item-items)) ≡ has_all (g.H.Holes.holes l.known) (flat_map holes_in_item l.item-items)
