use Rattle.std.proofs.Common.{◌≡◌, ◌≤◌, ◌+◌, ◌++◌, ℕ, List, drop, length}
use Rattle.mp_treetext.specs.Differences.{difference}
use Rattle.mp_treetext.proofs.comparing.piece_difference.Given as goal

abbrev pub invariant-loop-byte : goal.invariant-loop-byte
invariant-loop-byte l = record {
  place : l.here ≡ l.at + l.byte-index;
  within : l.here ≤ length l.source;
  same : (more : List ℕ) → difference l.here (drop l.here l.source) (drop l.byte-index l.piece ++ more) ≡ difference l.at (drop l.at l.source) (l.piece ++ more);
}
