use Rattle.std.proofs.Common.{◌≡◌, ◌++◌, map, length}
use Rattle.mp_schematext.specs.Buildable.{AreFaultlessPremises}
use Rattle.mp_schematext.specs.Values.{schema_of}
use Rattle.mp_theorytext.proofs.making.take_premises.Given as goal

abbrev pub decreases-loop-raw : goal.decreases-loop-raw
decreases-loop-raw l = length l.waiting

abbrev pub invariant-loop-raw : goal.invariant-loop-raw
invariant-loop-raw l = record {
  faultless : AreFaultlessPremises l.waiting;
  made : l.premises ++ map schema_of l.waiting ≡ map schema_of l.fn.raws;
}
