use Rattle.std.proofs.Common.{◌≡◌, drop}
use Rattle.std.specs.List.{flat_map}
use Rattle.mp_schema.specs.Conditions.{has}
use Rattle.mp_schema.specs.Occurrences.{hole_in_param}
use Rattle.mp_schema.proofs.holes.has_param_hole.Given as goal

abbrev pub invariant-loop-param : goal.invariant-loop-param
invariant-loop-param l = has (flat_map hole_in_param (drop l.param-index l.params)) l.name ≡ has (flat_map hole_in_param l.params) l.name
