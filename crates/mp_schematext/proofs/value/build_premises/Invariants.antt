use Rattle.std.proofs.Common.{◌≡◌, drop, take, map}
use Rattle.mp_schematext.specs.Buildable.{AreFaultlessPremises}
use Rattle.mp_schematext.specs.Values.{schema_of}
use Rattle.mp_schematext.proofs.value.build_premises.Given as goal

abbrev pub invariant-loop-raw : goal.invariant-loop-raw
invariant-loop-raw l = record {
  faultless : AreFaultlessPremises (drop l.raw-index l.raws);
  built : l.built ≡ map schema_of (take l.raw-index l.raws);
}
