use Rattle.std.proofs.Common.{◌≡◌, drop, length}
use Rattle.mp_words.specs.Faults.{least_from}
use Rattle.mp_treetext.specs.Statics.{block_names, order_faults}
use Rattle.mp_treetext.proofs.statics.check_order.Given as goal

abbrev pub invariant-loop-block : goal.invariant-loop-block
invariant-loop-block l =
    least_from l.held (order_faults (length l.source) l.due (block_names (drop l.block-index l.blocks))) ≡ least_from l.fn.held (order_faults (length l.source) l.goals (block_names l.blocks))
