-- What matching finds, as a function.
use Rattle.std.specs.Prelude.{ℕ, ◌+◌, List, [], ◌∷◌, ◌++◌, map, length, nat_eq, if◌then◌else◌, Option, Some, None, option_and_then}
use Rattle.std.specs.List.{slice_index_or}
use Rattle.mp_logic.specs.declared.sym.Sym.{Sym}
use Rattle.mp_term.specs.declared.term.Param.{Param}
use Rattle.mp_term.specs.declared.term.Term.{Term, Term-F, out-Term}
use Rattle.mp_term.specs.declared.term.Bound.{Bound}
use Rattle.mp_term.specs.declared.term.Term.TheOpen as term_layer
use Rattle.mp_term.specs.Subst.{unrenamed, upto}
use Rattle.mp_schema.specs.declared.instance.MetaVal.{MetaVal}
use Rattle.mp_schema.specs.declared.instance.ParamVal.{ParamVal}
use Rattle.mp_schema.specs.declared.pattern.ParamPat.{ParamPat}
use Rattle.mp_schema.specs.declared.pattern.ParamPat.TheVariants.{Lit, Hole}
use Rattle.mp_schema.specs.declared.pattern.Pattern.{Pattern, Pattern-F}
use Rattle.mp_schema.specs.declared.pattern.PBound.{PBound, PBound-F}
use Rattle.mp_schema.specs.declared.pattern.Pattern.TheOpen as layer
use Rattle.mp_schema.specs.declared.pattern.Pattern.TheFolds.{fold-Pattern, fold-PBound}
use Rattle.mp_schema.specs.Instances.{Ground}
use Rattle.mp_schema.specs.Conditions.{argument}
use Rattle.mp_schema.specs.Values.{find_meta, find_param}
use Rattle.mp_match.specs.declared.place.Found.{Found}
use Rattle.mp_term.specs.Equality.{same_param, same_term, is_level}

-- ## Parameters

-- a hole that has a parameter has to meet it again
abbrev pub hole_found : Sym → Param → Found → Option Param → Option Found
hole_found name p found None = let x : ParamVal = record { name = name; value = p } in Some (record found { params = found.params ++ x ∷ [] })
hole_found name p found (Some q) = if same_param q p then Some found else None

-- a parameter that is written has to be this one
abbrev pub param_found : ParamPat → Param → Found → Option Found
param_found (Lit q) p found = if same_param q p then Some found else None
param_found (Hole name) p found = hole_found name p found (find_param found.params name)

-- there have to be as many of both
abbrev pub params_found : List ParamPat → List Param → Found → Option Found
params_found [] [] found = Some found
params_found [] (p ∷ ps) found = None
params_found (q ∷ qs) [] found = None
params_found (q ∷ qs) (p ∷ ps) found = option_and_then (params_found qs ps) (param_found q p found)

-- ## Second-order variables

-- a second-order variable that has a value has to meet it again
abbrev pub value_found : Sym → ℕ → Found → Option MetaVal → Term → Option Found
value_found name scope found None body =
    let x : MetaVal = record { name = name; scope = scope; body = body } in Some (record found { metas = found.metas ++ x ∷ [] })
value_found name scope found (Some x) body = if same_term x.body body then Some found else None

-- the value is the term that gives t when these variables are substituted for its own
abbrev pub meta_found : Sym → List ℕ → ℕ → Term → Found → Option Found
meta_found name levels scope t found =
    option_and_then (value_found name (length levels) found (find_meta found.metas name)) (unrenamed levels scope t)

-- ## Patterns

-- what a pattern is to a match: its level if it is a variable, and what it finds, if its levels are these
-- variables, in a term of some scope, beside what is found already
pub record Matcher : Type 0 where
  pub level : Option ℕ
  pub finds : List ℕ → ℕ → Term → Found → Option Found

-- what a bound body is to a match: what it finds
pub record BoundMatcher : Type 0 where
  pub finds : List ℕ → ℕ → Bound → Found → Option Found

-- what the bodies find, one after the other; there have to be as many of both
abbrev pub all_found : List BoundMatcher → List ℕ → ℕ → List Bound → Found → Option Found
all_found [] levels scope [] found = Some found
all_found [] levels scope (x ∷ xs) found = None
all_found (b ∷ bs) levels scope [] found = None
all_found (b ∷ bs) levels scope (x ∷ xs) found = option_and_then (all_found bs levels scope xs) (b.finds levels scope x found)

-- an operator finds the same operator with as many parameters and bodies
abbrev pub op_found : Sym → List ParamPat → List BoundMatcher → List ℕ → ℕ → Found → Term-F Term Bound → Option Found
op_found op params subs levels scope found (term_layer.Var level) = None
op_found op params subs levels scope found (term_layer.Op other values bodies) =
    if nat_eq op.0 other.0 then option_and_then (all_found subs levels scope bodies) (params_found params values found) else None

module _ (front : Ground) where
  -- what one layer of a pattern is to a match, from what its parts are
  abbrev pub matcher_step : Pattern-F Matcher BoundMatcher → Matcher
  matcher_step (layer.Var level) =
      record { level = Some level; finds = λ levels scope t found. if is_level (slice_index_or levels level level) (out-Term t) then Some found else None }
  matcher_step (layer.Op op params subs) =
      record { level = None; finds = λ levels scope t found. op_found op params subs levels scope found (out-Term t) }
  matcher_step (layer.Meta name ctxs args) =
      record { level = None; finds = λ levels scope t found. meta_found name (front ctxs ++ map (λ (a : Matcher). argument levels a.level) args) scope t found }

  -- a bound body finds a body with as many binders, in the scope after them
  abbrev pub matcher_bound_step : PBound-F Matcher BoundMatcher → BoundMatcher
  matcher_bound_step b =
      record {
        finds = λ levels scope x found.
            if nat_eq b.binders x.binders then b.body.finds (levels ++ upto scope b.binders) (scope + b.binders) x.body found else None;
      }

  -- what a pattern is to a match
  abbrev pub matcher : Pattern → Matcher
  matcher = fold-Pattern Matcher BoundMatcher matcher_step matcher_bound_step

  -- what a bound body is to a match
  abbrev pub matcher_bound : PBound → BoundMatcher
  matcher_bound = fold-PBound Matcher BoundMatcher matcher_step matcher_bound_step

  -- what a pattern whose levels are these variables finds in a term of this scope, beside what is found already; None
  -- if some value would have to be two terms, or the term is none of the pattern's
  abbrev pub found_in : Pattern → List ℕ → ℕ → Term → Found → Option Found
  found_in p levels scope t found = (matcher p).finds levels scope t found
