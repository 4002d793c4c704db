use Rattle.std.proofs.Common.{◌≡◌, drop}
use Rattle.mp_schema.specs.Conditions.{is_apart}
use Rattle.mp_schema.proofs.place.are_names_apart.Given as goal

abbrev pub invariant-loop-i : goal.invariant-loop-i
invariant-loop-i l = is_apart (drop l.i l.names) ≡ is_apart l.names
