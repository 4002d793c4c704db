use Rattle.std.proofs.Common.{drop}
use Rattle.std.specs.List.{flat_map}
use Rattle.mp_schema.specs.Occurrences.{hole_in_param}
use Rattle.mp_schema.proofs.HoleNames.{IsOnTheWay}
use Rattle.mp_schema.proofs.hole_names.meet_param_holes.Given as goal

abbrev pub invariant-loop-param : goal.invariant-loop-param
invariant-loop-param l =
    IsOnTheWay l.fn.met (flat_map hole_in_param l.params) l.met (flat_map hole_in_param (drop l.param-index l.params))
