use Rattle.std.proofs.Common.{◌≡◌, drop, map}
use Rattle.mp_schema.specs.Occurrences.{variable_level}
use Rattle.mp_schema.specs.Faults.{are_distinct}
use Rattle.mp_schema.proofs.place.are_distinct_variables.Given as goal

abbrev pub invariant-loop-i : goal.invariant-loop-i
invariant-loop-i l = are_distinct (map variable_level (drop l.i l.args)) ≡ are_distinct (map variable_level l.args)
