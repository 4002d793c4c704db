-- The instances of a pattern.
use Rattle.std.specs.Prelude.{ℕ, ◌+◌, List, [], ◌∷◌, ◌++◌, map, length, Bool, true, ◌&&◌}
use Rattle.std.specs.List.{slice_index_or}
use Rattle.mp_logic.specs.declared.sym.Sym.{Sym}
use Rattle.mp_term.specs.declared.term.Param.{Param}
use Rattle.mp_term.specs.declared.term.Term.{Term, Var, Op}
use Rattle.mp_term.specs.declared.term.Bound.{Bound}
use Rattle.mp_term.specs.Terms.{in_scope_of}
use Rattle.mp_term.specs.Subst.{sub_of, variables}
use Rattle.mp_schema.specs.declared.pattern.ParamPat.{ParamPat}
use Rattle.mp_schema.specs.declared.pattern.ParamPat.TheVariants.{Lit, Hole}
use Rattle.mp_schema.specs.declared.pattern.Pattern.{Pattern, Pattern-F}
use Rattle.mp_schema.specs.declared.pattern.PBound.{PBound, PBound-F}
use Rattle.mp_schema.specs.declared.pattern.Pattern.TheOpen as layer
use Rattle.mp_schema.specs.declared.pattern.Pattern.TheFolds.{fold-Pattern, fold-PBound}

-- a term for each second-order variable, and a parameter for each hole
pub record Values : Type 0 where
  pub meta : Sym → Term
  pub param : Sym → Param

-- what depends on the terms of the pattern's levels and on the scope
abbrev pub Made : Type 0 → Type 0
Made X = List Term → ℕ → X

-- what each of a list makes, in order
abbrev pub made_each : {X : Type 0} → List (Made X) → Made (List X)
made_each [] env m = []
made_each (x ∷ xs) env m = x env m ∷ made_each xs env m

-- the parameter that stands there, or the hole's
abbrev pub param_of : Values → ParamPat → Param
param_of v (Lit p) = p
param_of v (Hole name) = v.param name

-- the variables that a value has before its arguments: of the ambient scope and of the contexts of a list
abbrev pub Ground : Type 0
Ground = List Sym → List ℕ

module _ (front : Ground) (v : Values) where
  -- one layer of the instance, from the instances of its parts
  abbrev pub inst_step : Pattern-F (Made Term) (Made Bound) → Made Term
  inst_step (layer.Var level) env m = slice_index_or env level (Var level)
  inst_step (layer.Op op params subs) env m = Op op (map (param_of v) params) (made_each subs env m)
  inst_step (layer.Meta name ctxs args) env m = sub_of (v.meta name) (map Var (front ctxs) ++ made_each args env m) m

  -- the instance of a bound body: the binders are the levels after the scope
  abbrev pub inst_bound_step : PBound-F (Made Term) (Made Bound) → Made Bound
  inst_bound_step b env m = record { binders = b.binders; body = b.body (env ++ variables m b.binders) (m + b.binders) }

  -- the term for a pattern
  abbrev pub inst_of : Pattern → Made Term
  inst_of = fold-Pattern (Made Term) (Made Bound) inst_step inst_bound_step

  -- the instance of a bound body
  abbrev pub inst_bound : PBound → Made Bound
  inst_bound = fold-PBound (Made Term) (Made Bound) inst_step inst_bound_step

-- each test passes
abbrev pub all_pass : List Bool → Bool
all_pass [] = true
all_pass (b ∷ bs) = b && all_pass bs

-- how many variables a value has before its arguments
abbrev pub Wide : Type 0
Wide = List Sym → ℕ

module _ (wide : Wide) (v : Values) where
  -- the values fit one layer if they fit its parts, and a second-order variable's term is in its scope
  abbrev pub fit_step : Pattern-F Bool Bool → Bool
  fit_step (layer.Var level) = true
  fit_step (layer.Op op params subs) = all_pass subs
  fit_step (layer.Meta name ctxs args) = in_scope_of (v.meta name) (wide ctxs + length args) && all_pass args

  -- the values fit a bound body if they fit its pattern
  abbrev pub fit_bound_step : PBound-F Bool Bool → Bool
  fit_bound_step b = b.body

  -- each value is in the scope that its uses ask
  abbrev pub fits : Pattern → Bool
  fits = fold-Pattern Bool Bool fit_step fit_bound_step

  -- each value is in the scope that its uses in a bound body ask
  abbrev pub fits_bound : PBound → Bool
  fits_bound = fold-PBound Bool Bool fit_step fit_bound_step
