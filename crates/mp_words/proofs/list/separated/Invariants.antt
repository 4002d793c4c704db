use Rattle.std.proofs.Common.{◌+◌, ◌≤◌, length}
use Rattle.mp_words.specs.Fronts.{is_mark}
use Rattle.mp_words.proofs.Steps.{RowLeft}
use Rattle.mp_words.proofs.list.separated.Given as goal

abbrev pub decreases-loop-read : goal.decreases-loop-read
decreases-loop-read g l = length l.at

abbrev pub invariant-loop-read : goal.invariant-loop-read
invariant-loop-read g l = record {
  left : RowLeft g.R.Reader.grammar (is_mark l.separator) (is_mark l.end) l.items l.at l.words;
  few : length l.items + length l.at ≤ length l.words;
}
