use Rattle.std.proofs.Common.{◌≡◌, drop}
use Rattle.mp_schema.specs.Conditions.{has}
use Rattle.mp_schema.proofs.place.has_name.Given as goal

abbrev pub invariant-loop-other : goal.invariant-loop-other
invariant-loop-other l = has (drop l.other-index l.names) l.name ≡ has l.names l.name
