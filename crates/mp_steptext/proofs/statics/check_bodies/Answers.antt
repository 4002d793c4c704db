use Rattle.mp_words.proofs.FaultParts.{flat_next}
use Rattle.mp_steptext.specs.Statics.{body_faults}
use Rattle.mp_steptext.proofs.statics.check_bodies.Goals as goal

pub loop-raw-preserved : goal.loop-raw-preserved
loop-raw-preserved g c =
    flat_next (body_faults g.B.Body.arity g.B.Body.faults) c.args.given.now c.loop-raw.raw-index c.raw-item.result c.loop-raw.held c.in_ok-held.held _ c.loop-raw-test.true c.raw-item.is c.in_ok-held.ensures c.loop-raw.invariant
