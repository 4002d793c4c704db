use Rattle.std.proofs.Common.{◌≡◌, drop}
use Rattle.std.specs.List.{list_all, flat_map}
use Rattle.mp_schema.specs.Occurrences.{occurrences_in_schema}
use Rattle.mp_schema.proofs.rule.are_uses_kept.Given as goal

abbrev pub invariant-loop-premise : goal.invariant-loop-premise
invariant-loop-premise g l =
    list_all (g.D.Demand.keeps l.demand) (flat_map occurrences_in_schema (drop l.premise-index l.premises)) ≡ list_all (g.D.Demand.keeps l.demand) (flat_map occurrences_in_schema l.premises)
