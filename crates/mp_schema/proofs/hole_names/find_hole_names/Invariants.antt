use Rattle.std.proofs.Common.{drop}
use Rattle.std.specs.List.{flat_map}
use Rattle.mp_schema.specs.Occurrences.{holes_in_item}
use Rattle.mp_schema.proofs.HoleNames.{IsOnTheWay}
use Rattle.mp_schema.proofs.hole_names.find_hole_names.Given as goal

abbrev pub invariant-loop-item : goal.invariant-loop-item
invariant-loop-item l =
    IsOnTheWay l.initial.met (flat_map holes_in_item l.item-items) l.met (flat_map holes_in_item (drop l.item-index l.item-items))
