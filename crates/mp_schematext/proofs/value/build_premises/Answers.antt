use Rattle.std.proofs.Common.{arith}
use Rattle.std.proofs.lemmas.Grind.{common_steps}
use Rattle.mp_schematext.proofs.Narrow.{first_premise}
use Rattle.mp_schematext.proofs.value.build_premises.Goals as goal

pub build_schema-requires : goal.build_schema-requires
build_schema-requires c = record { faultless = (first_premise c.args.raws.now c.loop-raw.raw-index c.raw-item.result c.loop-raw-test.true c.raw-item.is c.loop-raw.invariant.faultless).0 }

pub loop-raw-preserved : goal.loop-raw-preserved
loop-raw-preserved c = record {
  faultless = (first_premise c.args.raws.now c.loop-raw.raw-index c.raw-item.result c.loop-raw-test.true c.raw-item.is c.loop-raw.invariant.faultless).1;
  built = grind (arith, common_steps);
}
