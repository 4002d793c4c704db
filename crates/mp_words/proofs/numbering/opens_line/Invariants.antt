use Rattle.std.proofs.Common.{◌≡◌, ◌≤◌, length}
use Rattle.mp_words.specs.Words.{opens_line}
use Rattle.mp_words.proofs.numbering.opens_line.Given as goal

abbrev pub invariant-loop-left : goal.invariant-loop-left
invariant-loop-left l = record {
  within : l.left ≤ length l.source;
  same : opens_line l.source l.at ≡ opens_line l.source l.left;
}

abbrev pub decreases-loop-left : goal.decreases-loop-left
decreases-loop-left l = l.left
