use Rattle.std.proofs.Common.{◌≡◌, ◌≤◌, ◌+◌, drop}
use Rattle.mp_treetext.specs.Statics.{open_lines}
use Rattle.mp_treetext.proofs.statics.open_lines.Given as goal

abbrev pub invariant-loop-line : goal.invariant-loop-line
invariant-loop-line l = record {
  few : l.count ≤ l.line-index;
  left : l.count + open_lines (drop l.line-index l.lines) ≡ open_lines l.lines;
}
