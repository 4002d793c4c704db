use Rattle.std.proofs.Common.{◌+◌, ◌≤◌, length}
use Rattle.mp_words.proofs.Steps.{RepeatedLeft}
use Rattle.mp_words.proofs.list.repeated.Given as goal

abbrev pub decreases-loop-alloc : goal.decreases-loop-alloc
decreases-loop-alloc g l = length l.at

abbrev pub invariant-loop-alloc : goal.invariant-loop-alloc
invariant-loop-alloc g l = record {
  left : RepeatedLeft g.R.Beginning.begun g.R.Reader.grammar l.items l.at l.words;
  few : length l.items + length l.at ≤ length l.words;
}
