-- What patterns stand for that are written.
use Rattle.std.specs.Prelude.{◌++◌, List, [], ◌∷◌, length, map, unwrap_or}
use Rattle.mp_logic.specs.declared.sym.Sym.{Sym}
use Rattle.mp_schema.specs.declared.pattern.Pattern.{Pattern, Var, Op, Meta}
use Rattle.mp_schema.specs.declared.pattern.ParamPat.{ParamPat}
use Rattle.mp_schema.specs.declared.pattern.ParamPat.TheVariants.{Lit, Hole}
use Rattle.mp_schema.specs.declared.pattern.PBound.{PBound}
use Rattle.mp_termtext.specs.Statics.{names_of}
use Rattle.mp_patterntext.specs.declared.raw.RawParamPat.{RawParamPat}
use Rattle.mp_patterntext.specs.declared.raw.RawPatternBound.{RawPatternBound, RawPatternBound-F, fold-RawPatternBound}
use Rattle.mp_patterntext.specs.declared.raw.RawPattern.{RawPattern, RawPattern-F}
use Rattle.mp_patterntext.specs.declared.raw.RawPattern.TheFolds.{fold-RawPattern}
use Rattle.mp_patterntext.specs.Scopes.{level_in, syms_of}
use Rattle.mp_patterntext.specs.declared.raw.RawParamPat.TheVariants as raw
use Rattle.mp_patterntext.specs.declared.raw.RawPattern.TheOpen as layer

-- what something stands for where these names are bound
abbrev pub Valued : Type 0 → Type 0
Valued X = List Sym → X

-- the value of each of them, where the same names are bound
abbrev pub each_pattern_value : {X : Type 0} → List (Valued X) → Valued (List X)
each_pattern_value [] env = []
each_pattern_value (x ∷ xs) env = x env ∷ each_pattern_value xs env

-- the parameter that is written
abbrev pub param_value : RawParamPat → ParamPat
param_value (raw.Lit p) = Lit p.value
param_value (raw.Hole name at) = Hole name.name

-- the pattern of one node, where those of the patterns in it are known
abbrev pub pattern_value_step : RawPattern-F (Valued Pattern) (Valued PBound) → Valued Pattern
pattern_value_step (layer.Var name at) env = Var (unwrap_or (level_in env name) 0)
pattern_value_step (layer.Op name params subs at) env = Op name (map param_value params) (each_pattern_value subs env)
pattern_value_step (layer.Meta name ctxs args at) env = Meta name (syms_of ctxs) (each_pattern_value args env)

-- the subterm, where the pattern of its body is known: its binders are bound in it
abbrev pub pattern_value_bound_step : RawPatternBound-F (Valued Pattern) (Valued PBound) → Valued PBound
pattern_value_bound_step b env = record { binders = length b.binders; body = b.body (env ++ names_of b.binders) }

-- the pattern that is written
abbrev pub pattern_of : RawPattern → Valued Pattern
pattern_of = fold-RawPattern (Valued Pattern) (Valued PBound) pattern_value_step pattern_value_bound_step

-- the subterm that is written, with the number of its binders
abbrev pub bound_of : RawPatternBound → Valued PBound
bound_of = fold-RawPatternBound (Valued Pattern) (Valued PBound) pattern_value_step pattern_value_bound_step
