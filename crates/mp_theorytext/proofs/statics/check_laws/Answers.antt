use Rattle.mp_words.proofs.FaultParts.{flat_next}
use Rattle.mp_theorytext.specs.Statics.{law_faults}
use Rattle.mp_theorytext.proofs.statics.check_laws.Goals as goal

pub loop-raw-preserved : goal.loop-raw-preserved
loop-raw-preserved c =
    flat_next law_faults c.args.raws.now c.loop-raw.raw-index c.raw-item.result c.loop-raw.held c.in_ok-held.held _ c.loop-raw-test.true c.raw-item.is c.in_ok-held.ensures c.loop-raw.invariant
