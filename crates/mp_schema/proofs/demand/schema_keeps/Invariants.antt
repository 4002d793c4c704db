use Rattle.std.proofs.Common.{◌≡◌, drop}
use Rattle.std.specs.List.{list_all, flat_map}
use Rattle.mp_schema.specs.Occurrences.{occurrences_in_item}
use Rattle.mp_schema.proofs.demand.schema_keeps.Given as goal

abbrev pub invariant-loop-item : goal.invariant-loop-item
invariant-loop-item g l =
    list_all (g.D.Demand.keeps l.demand) (flat_map occurrences_in_item (drop l.item-index l.item-items)) ≡ list_all (g.D.Demand.keeps l.demand) (flat_map occurrences_in_item l.item-items)
