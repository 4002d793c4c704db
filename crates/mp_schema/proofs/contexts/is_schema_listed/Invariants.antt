use Rattle.mp_schema.specs.Faults.{item_listed}
use Rattle.mp_schema.proofs.Befores.{Walked}
use Rattle.mp_schema.proofs.contexts.is_schema_listed.Given as goal

abbrev pub invariant-loop-i : goal.invariant-loop-i
invariant-loop-i l = Walked item_listed l.items l.i
