use Rattle.std.proofs.Common.{◌≡◌, ◌++◌, drop}
use Rattle.std.specs.List.{flat_map}
use Rattle.mp_schematext.specs.Uses.{raw_schema_holes}
use Rattle.mp_schematext.proofs.holes.gather_schemata.Given as goal

abbrev pub invariant-loop-raw : goal.invariant-loop-raw
invariant-loop-raw l = l.holes ++ flat_map raw_schema_holes (drop l.raw-index l.raws) ≡ l.fn.holes ++ flat_map raw_schema_holes l.raws
