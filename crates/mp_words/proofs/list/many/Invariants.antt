use Rattle.std.proofs.Common.{◌+◌, ◌≤◌, length}
use Rattle.mp_words.specs.Grammars.{some_words}
use Rattle.mp_words.proofs.Steps.{RepeatedLeft}
use Rattle.mp_words.proofs.list.many.Given as goal

abbrev pub decreases-loop-at : goal.decreases-loop-at
decreases-loop-at g l = length l.at

abbrev pub invariant-loop-at : goal.invariant-loop-at
invariant-loop-at g l = record {
  left : RepeatedLeft some_words g.R.Reader.grammar l.items l.at l.words;
  few : length l.items + length l.at ≤ length l.words;
}
