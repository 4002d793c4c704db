use Rattle.std.proofs.Common.{◌≡◌, map, take}
use Rattle.mp_schema.specs.Instances.{param_of}
use Rattle.mp_schema.specs.Values.{instance_of}
use Rattle.mp_build.proofs.build.build_params.Given as goal

abbrev pub invariant-loop-param : goal.invariant-loop-param
invariant-loop-param l = l.made ≡ map (param_of (instance_of l.inst).values) (take l.param-index l.params)
