use Rattle.std.proofs.Common.{◌≡◌, ◌++◌, drop, map}
use Rattle.mp_patterntext.specs.Nodes.{argument_of, variables_in}
use Rattle.mp_patterntext.proofs.nodes.variables.Given as goal

abbrev pub invariant-loop-arg : goal.invariant-loop-arg
invariant-loop-arg l = l.names.items ++ variables_in (map argument_of (drop l.arg-index l.args)) ≡ variables_in (map argument_of l.args)
