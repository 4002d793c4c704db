use Rattle.std.proofs.Common.{◌≡◌, ◌≤◌, drop, length}
use Rattle.mp_treetext.specs.Differences.{difference}
use Rattle.mp_treetext.specs.Printed.{trees_text}
use Rattle.mp_treetext.proofs.comparing.file_difference.Given as goal

abbrev pub invariant-loop-place : goal.invariant-loop-place
invariant-loop-place l = record {
  within : l.at ≤ length l.source;
  same : difference l.at (drop l.at l.source) (trees_text l.names l.theory (drop l.place l.goals) (drop l.place l.blocks)) ≡ difference 0 l.source (trees_text l.names l.theory l.goals l.blocks);
}
