use Rattle.std.proofs.Common.{◌≡◌, drop}
use Rattle.std.specs.List.{flat_map}
use Rattle.mp_schema.specs.Conditions.{has_all}
use Rattle.mp_schema.specs.Occurrences.{holes_in_schema}
use Rattle.mp_schema.proofs.holes.are_schemata_filled.Given as goal

abbrev pub invariant-loop-s : goal.invariant-loop-s
invariant-loop-s g l =
    has_all (g.H.Holes.holes l.known) (flat_map holes_in_schema (drop l.s-index l.schemata)) ≡ has_all (g.H.Holes.holes l.known) (flat_map holes_in_schema l.schemata)
