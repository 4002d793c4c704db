use Rattle.std.proofs.Common.{◌≡◌, ◌++◌, drop}
use Rattle.std.specs.List.{flat_map}
use Rattle.mp_patterntext.specs.Uses.{holes_in_param}
use Rattle.mp_patterntext.proofs.holes.gather_param_holes.Given as goal

abbrev pub invariant-loop-param : goal.invariant-loop-param
invariant-loop-param l = l.holes ++ flat_map holes_in_param (drop l.param-index l.params) ≡ l.fn.holes ++ flat_map holes_in_param l.params
