use Rattle.mp_words.proofs.FaultParts.{flat_next}
use Rattle.mp_theorytext.specs.Statics.{size_faults}
use Rattle.mp_theorytext.proofs.rewrite.check_condition_sizes.Goals as goal

pub loop-cond-preserved : goal.loop-cond-preserved
loop-cond-preserved c =
    flat_next size_faults c.args.conds.now c.loop-cond.cond-index c.cond-item.result c.loop-cond.held c.check_pattern_size-held.result _ c.loop-cond-test.true c.cond-item.is c.check_pattern_size-held.ensures c.loop-cond.invariant
