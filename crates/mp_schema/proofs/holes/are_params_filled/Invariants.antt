use Rattle.std.proofs.Common.{◌≡◌, drop}
use Rattle.std.specs.List.{flat_map}
use Rattle.mp_schema.specs.Conditions.{has_all}
use Rattle.mp_schema.specs.Occurrences.{hole_in_param}
use Rattle.mp_schema.proofs.holes.are_params_filled.Given as goal

abbrev pub invariant-loop-param : goal.invariant-loop-param
invariant-loop-param g l =
    has_all (g.H.Holes.holes l.known) (flat_map hole_in_param (drop l.param-index l.params)) ≡ has_all (g.H.Holes.holes l.known) (flat_map hole_in_param l.params)
