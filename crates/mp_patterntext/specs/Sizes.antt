-- The sizes of patterns as they are written.
use Rattle.std.specs.Prelude.{ℕ, ◌+◌, sum}
use Rattle.mp_patterntext.specs.declared.raw.RawPatternBound.{RawPatternBound, RawPatternBound-F, fold-RawPatternBound}
use Rattle.mp_patterntext.specs.declared.raw.RawPattern.{RawPattern, RawPattern-F}
use Rattle.mp_patterntext.specs.declared.raw.RawPattern.TheFolds.{fold-RawPattern}
use Rattle.mp_patterntext.specs.declared.raw.RawPattern.TheOpen as layer

-- ## Sizes

-- the size of one node, where those of the patterns in it are known
abbrev pub raw_pattern_size_step : RawPattern-F ℕ ℕ → ℕ
raw_pattern_size_step (layer.Var name at) = 1
raw_pattern_size_step (layer.Op name params subs at) = 1 + sum subs
raw_pattern_size_step (layer.Meta name ctxs args at) = 1 + sum args

-- the size of one subterm is that of its body
abbrev pub raw_pattern_size_bound_step : RawPatternBound-F ℕ ℕ → ℕ
raw_pattern_size_bound_step b = b.body

-- the number of variables, operators and second-order variables
abbrev pub raw_pattern_size_of : RawPattern → ℕ
raw_pattern_size_of = fold-RawPattern ℕ ℕ raw_pattern_size_step raw_pattern_size_bound_step

-- the size of a subterm is that of its body
abbrev pub raw_bound_size_of : RawPatternBound → ℕ
raw_bound_size_of = fold-RawPatternBound ℕ ℕ raw_pattern_size_step raw_pattern_size_bound_step
