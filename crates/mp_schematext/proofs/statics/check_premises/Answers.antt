use Rattle.mp_words.proofs.FaultParts.{flat_next}
use Rattle.mp_patterntext.specs.Scopes.{syms_of}
use Rattle.mp_schematext.specs.Statics.{premise_faults}
use Rattle.mp_schematext.proofs.statics.check_premises.Goals as goal

pub loop-premise-preserved : goal.loop-premise-preserved
loop-premise-preserved c =
    flat_next (premise_faults (syms_of c.args.concl.now)) c.args.premises.now c.loop-premise.premise-index c.premise-item.result c.loop-premise.held c.in_ok-held.held _ c.loop-premise-test.true c.premise-item.is c.in_ok-held.ensures c.loop-premise.invariant
