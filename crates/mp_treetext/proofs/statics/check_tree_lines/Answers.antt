use Rattle.std.proofs.Common.{rules}
use Rattle.mp_treetext.proofs.Held.{line_next}
use Rattle.mp_treetext.proofs.statics.check_tree_lines.Goals as goal

pub loop-line-preserved : goal.loop-line-preserved
loop-line-preserved c =
    line_next c.args.theory.now c.args.source.now c.loop-line.before _ c.args.lines.now c.loop-line.line-index c.line-item.result c.loop-line.held _ _
    c.loop-line-test.true c.line-item.is c.in_ok-held.ensures (search rules) c.loop-line.invariant
