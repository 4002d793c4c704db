use Rattle.std.proofs.Common.{◌≡◌, None, drop}
use Rattle.mp_words.specs.Faults.{least_from}
use Rattle.mp_treetext.specs.Statics.{tree_lines_faults}
use Rattle.mp_treetext.proofs.statics.check_tree_lines.Given as goal

abbrev pub invariant-loop-line : goal.invariant-loop-line
invariant-loop-line l = least_from l.held (tree_lines_faults l.theory l.source l.before (drop l.line-index l.lines)) ≡ least_from l.fn.held (tree_lines_faults l.theory l.source None l.lines)
