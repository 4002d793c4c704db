use Rattle.std.proofs.Common.{◌≡◌, take, map}
use Rattle.mp_patterntext.specs.Values.{param_value}
use Rattle.mp_patterntext.proofs.value.build_params.Given as goal

abbrev pub invariant-loop-param : goal.invariant-loop-param
invariant-loop-param l = l.values ≡ map param_value (take l.param-index l.param-items)
