use Rattle.std.proofs.Common.{◌*◌, ◌+◌, ◌≤◌, length}
use Rattle.mp_words.specs.declared.word.Mark.TheVariants as mark
use Rattle.mp_words.specs.Fronts.{is_mark}
use Rattle.mp_words.proofs.Steps.{RowLeft}
use Rattle.mp_termtext.specs.Grammar.{bound_by, term}
use Rattle.mp_termtext.proofs.syntax.+parsing.Given as goal

abbrev pub decreases-parse_term : goal.decreases-parse_term
decreases-parse_term l = 3 * length l.words.now

abbrev pub decreases-parse_bound : goal.decreases-parse_bound
decreases-parse_bound l = 3 * length l.words.now + 1

abbrev pub decreases-parse_bounds : goal.decreases-parse_bounds
decreases-parse_bounds l = 3 * length l.words.now + 2

abbrev pub decreases-parse_subs : goal.decreases-parse_subs
decreases-parse_subs l = 3 * length l.words.now

abbrev pub decreases-parse_bounds-loop-read : goal.decreases-parse_bounds-loop-read
decreases-parse_bounds-loop-read l = length l.at

abbrev pub invariant-parse_bounds-loop-read : goal.invariant-parse_bounds-loop-read
invariant-parse_bounds-loop-read l = record {
  left : RowLeft (bound_by term) (is_mark mark.Semicolon) (is_mark mark.CloseBrace) l.subs l.at l.words;
  within : length l.at ≤ length l.words;
}
