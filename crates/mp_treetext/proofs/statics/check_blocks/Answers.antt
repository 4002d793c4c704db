use Rattle.mp_words.proofs.FaultParts.{flat_next}
use Rattle.mp_treetext.specs.Statics.{block_faults}
use Rattle.mp_treetext.proofs.statics.check_blocks.Goals as goal

pub loop-block-preserved : goal.loop-block-preserved
loop-block-preserved c =
    flat_next (block_faults c.args.theory.now c.args.source.now) c.args.blocks.now c.loop-block.block-index c.block-item.result c.loop-block.held _ _
    c.loop-block-test.true c.block-item.is c.in_ok-held.ensures c.loop-block.invariant
