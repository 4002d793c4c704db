use Rattle.std.proofs.Common.{◌*◌, ◌+◌, ◌≤◌, length}
use Rattle.mp_words.specs.Fronts.{is_mark}
use Rattle.mp_words.proofs.Steps.{RowLeft}
use Rattle.mp_patterntext.specs.Grammar.{pattern_bound_by, pattern}
use Rattle.mp_words.specs.declared.word.Mark.TheVariants as mark
use Rattle.mp_patterntext.proofs.pattern.+parsing.Given as goal

abbrev pub decreases-parse_pattern : goal.decreases-parse_pattern
decreases-parse_pattern l = 3 * length l.words.now

abbrev pub decreases-parse_bound : goal.decreases-parse_bound
decreases-parse_bound l = 3 * length l.words.now + 1

abbrev pub decreases-parse_bounds : goal.decreases-parse_bounds
decreases-parse_bounds l = 3 * length l.words.now + 2

abbrev pub decreases-parse_subs : goal.decreases-parse_subs
decreases-parse_subs l = 3 * length l.words.now

abbrev pub decreases-parse_args : goal.decreases-parse_args
decreases-parse_args l = 3 * length l.words.now + 2

abbrev pub decreases-parse_arguments : goal.decreases-parse_arguments
decreases-parse_arguments l = 3 * length l.words.now

abbrev pub decreases-parse_args-loop-read : goal.decreases-parse_args-loop-read
decreases-parse_args-loop-read l = length l.at

abbrev pub invariant-parse_args-loop-read : goal.invariant-parse_args-loop-read
invariant-parse_args-loop-read l = record {
  left : RowLeft pattern (is_mark mark.Semicolon) (is_mark mark.CloseBracket) l.args l.at l.words;
  within : length l.at ≤ length l.words;
}

abbrev pub decreases-parse_bounds-loop-read : goal.decreases-parse_bounds-loop-read
decreases-parse_bounds-loop-read l = length l.at

abbrev pub invariant-parse_bounds-loop-read : goal.invariant-parse_bounds-loop-read
invariant-parse_bounds-loop-read l = record {
  left : RowLeft (pattern_bound_by pattern) (is_mark mark.Semicolon) (is_mark mark.CloseBrace) l.subs l.at l.words;
  within : length l.at ≤ length l.words;
}
