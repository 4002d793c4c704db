-- Where second-order variables and holes stand in patterns as they are written, and what is asked of them.
use Rattle.std.specs.Prelude.{ℕ, ◌++◌, List, [], ◌∷◌, length, Bool, false, ◌&&◌, not, nat_eq, Option, None, Some}
use Rattle.std.specs.List.{flat_map, find}
use Rattle.mp_logic.specs.declared.sym.Sym.{Sym}
use Rattle.mp_schema.specs.Faults.{same_names}
use Rattle.mp_logic.specs.Lists.{same_bool}
use Rattle.mp_words.specs.declared.fail.TextErr.{TextErr}
use Rattle.mp_words.specs.Faults.{fault_if}
use Rattle.mp_words.specs.declared.raw.RawName.{RawName}
use Rattle.mp_patterntext.specs.declared.raw.RawParamPat.{RawParamPat}
use Rattle.mp_patterntext.specs.declared.raw.RawParamPat.TheVariants.{Lit, Hole}
use Rattle.mp_patterntext.specs.declared.raw.RawPatternBound.{RawPatternBound, RawPatternBound-F, fold-RawPatternBound}
use Rattle.mp_patterntext.specs.declared.raw.RawPattern.{RawPattern, RawPattern-F}
use Rattle.mp_patterntext.specs.declared.raw.RawPattern.TheFolds.{fold-RawPattern}
use Rattle.mp_patterntext.specs.Scopes.{syms_of, unknown_faults}
use Rattle.mp_words.specs.declared.fail.TextWhy.TheVariants as why
use Rattle.mp_patterntext.specs.declared.raw.RawPattern.TheOpen as layer

-- ## Uses

-- a place where a second-order variable stands, or a context as an item: its list of contexts and the number of its
-- arguments
pub record Use : Type 0 where
  pub is_context : Bool
  pub name : Sym
  pub at : ℕ
  pub ctxs : List Sym
  pub arity : ℕ

-- the uses of one node, from those of the patterns in it
abbrev pub raw_uses_step : RawPattern-F (List Use) (List Use) → List Use
raw_uses_step (layer.Var name at) = []
raw_uses_step (layer.Op name params subs at) = flat_map (λ us. us) subs
raw_uses_step (layer.Meta name ctxs args at) = record { is_context = false; name = name; at = at; ctxs = syms_of ctxs; arity = length args } ∷ flat_map (λ us. us) args

-- the uses in a subterm are those in its body
abbrev pub raw_uses_bound_step : RawPatternBound-F (List Use) (List Use) → List Use
raw_uses_bound_step b = b.body

-- the uses in a pattern, in the order of the text
abbrev pub uses_in : RawPattern → List Use
uses_in = fold-RawPattern (List Use) (List Use) raw_uses_step raw_uses_bound_step

-- the uses in a subterm
abbrev pub uses_in_bound : RawPatternBound → List Use
uses_in_bound = fold-RawPatternBound (List Use) (List Use) raw_uses_step raw_uses_bound_step

-- the name of a use, at its place
abbrev pub use_name : Use → RawName
use_name u = record { name = u.name; at = u.at }

-- the first use of this name
abbrev pub first_use : List Use → Sym → Option Use
first_use us name = find (λ u. nat_eq u.name.0 name.0) us

-- two uses are both of contexts or both of second-order variables, with the same list of contexts and as many arguments
abbrev pub is_like_use : Use → Use → Bool
is_like_use first u = same_bool first.is_context u.is_context && same_names first.ctxs u.ctxs && nat_eq first.arity u.arity

-- a first use is there, and a use is like it
abbrev pub is_like_first_use : Option Use → Use → Bool
is_like_first_use None u = false
is_like_first_use (Some first) u = is_like_use first u

-- the use is like the first one of its name among all
abbrev pub like_faults : List Use → Use → List TextErr
like_faults all u = fault_if (not (is_like_first_use (first_use all u.name) u)) u.at why.BadUse

-- each use is like the first one of its name
abbrev pub uses_faults : List Use → List TextErr
uses_faults us = flat_map (like_faults us) us

-- ## Holes

-- the name of a parameter that is a hole
abbrev pub holes_in_param : RawParamPat → List RawName
holes_in_param (Lit p) = []
holes_in_param (Hole name at) = name ∷ []

-- the holes of one node, where those of the patterns in it are known
abbrev pub raw_holes_step : RawPattern-F (List RawName) (List RawName) → List RawName
raw_holes_step (layer.Var name at) = []
raw_holes_step (layer.Op name params subs at) = flat_map holes_in_param params ++ flat_map (λ hs. hs) subs
raw_holes_step (layer.Meta name ctxs args at) = flat_map (λ hs. hs) args

-- the holes of one subterm are those of its body
abbrev pub raw_holes_bound_step : RawPatternBound-F (List RawName) (List RawName) → List RawName
raw_holes_bound_step b = b.body

-- the holes of a pattern, in the order of the text
abbrev pub raw_holes : RawPattern → List RawName
raw_holes = fold-RawPattern (List RawName) (List RawName) raw_holes_step raw_holes_bound_step

-- the holes of a subterm
abbrev pub raw_bound_holes : RawPatternBound → List RawName
raw_bound_holes = fold-RawPatternBound (List RawName) (List RawName) raw_holes_step raw_holes_bound_step

-- each hole is one of these
abbrev pub hole_faults : List Sym → List RawName → List TextErr
hole_faults known hs = unknown_faults why.UnboundParam known hs
