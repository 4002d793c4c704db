use Rattle.std.proofs.Common.{◌≡◌, drop, map}
use Rattle.mp_schema.specs.Occurrences.{variable_level}
use Rattle.mp_schema.specs.Faults.{has_level}
use Rattle.mp_schema.proofs.place.has_variable.Given as goal

abbrev pub invariant-loop-arg : goal.invariant-loop-arg
invariant-loop-arg l = has_level (map variable_level (drop l.arg-index l.args)) l.level ≡ has_level (map variable_level l.args) l.level
