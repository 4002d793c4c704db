use Rattle.std.proofs.Common.{◌≡◌, drop}
use Rattle.std.specs.List.{list_all, flat_map}
use Rattle.mp_schema.specs.Occurrences.{occurrences_in, occurrences_in_bound}
use Rattle.mp_schema.proofs.demand.+keeping.Given as goal

abbrev pub invariant-patterns_keep-loop-p : goal.invariant-patterns_keep-loop-p
invariant-patterns_keep-loop-p g l =
    list_all (g.D.Demand.keeps l.demand) (flat_map occurrences_in (drop l.p-index l.patterns)) ≡ list_all (g.D.Demand.keeps l.demand) (flat_map occurrences_in l.patterns)

abbrev pub invariant-bodies_keep-loop-sub : goal.invariant-bodies_keep-loop-sub
invariant-bodies_keep-loop-sub g l =
    list_all (g.D.Demand.keeps l.demand) (flat_map occurrences_in_bound (drop l.sub-index l.subs)) ≡ list_all (g.D.Demand.keeps l.demand) (flat_map occurrences_in_bound l.subs)
