use Rattle.std.proofs.Common.{◌≡◌, drop}
use Rattle.std.specs.List.{flat_map}
use Rattle.mp_schema.specs.Conditions.{has_all}
use Rattle.mp_schema.specs.Occurrences.{holes_in, holes_in_bound}
use Rattle.mp_schema.proofs.holes.+filled.Given as goal

abbrev pub invariant-are_bodies_filled-loop-sub : goal.invariant-are_bodies_filled-loop-sub
invariant-are_bodies_filled-loop-sub g l =
    has_all (g.H.Holes.holes l.known) (flat_map holes_in_bound (drop l.sub-index l.subs)) ≡ has_all (g.H.Holes.holes l.known) (flat_map holes_in_bound l.subs)

abbrev pub invariant-are_patterns_filled-loop-p : goal.invariant-are_patterns_filled-loop-p
invariant-are_patterns_filled-loop-p g l =
    has_all (g.H.Holes.holes l.known) (flat_map holes_in (drop l.p-index l.patterns)) ≡ has_all (g.H.Holes.holes l.known) (flat_map holes_in l.patterns)
