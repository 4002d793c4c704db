use Rattle.std.proofs.Common.{◌≡◌, ◌≤◌, ◌++◌, drop, length}
use Rattle.mp_treetext.specs.Values.{justs_of, lines_of}
use Rattle.mp_treetext.proofs.making.build_lines.Given as goal

abbrev pub invariant-loop-raw : goal.invariant-loop-raw
invariant-loop-raw l = record {
  few : length l.justs ≤ l.raw-index;
  lines : l.lines ++ lines_of l.source (length l.justs) (drop l.raw-index l.raws) ≡ lines_of l.source 0 l.raws;
  justs : l.justs ++ justs_of l.theory (drop l.raw-index l.raws) ≡ justs_of l.theory l.raws;
}
