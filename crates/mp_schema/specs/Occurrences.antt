-- Where second-order variables, contexts and holes stand in a text.
use Rattle.std.specs.Prelude.{◌≡◌, ◌⊎◌, ℕ, List, [], ◌∷◌, ◌++◌, map, Bool, true, false, nat_eq, Option, Some, None}
use Rattle.std.specs.List.{flat_map, find}
use Rattle.mp_logic.specs.declared.sym.Sym.{Sym}
use Rattle.mp_schema.specs.declared.pattern.ParamPat.{ParamPat}
use Rattle.mp_schema.specs.declared.pattern.ParamPat.TheVariants.{Lit, Hole}
use Rattle.mp_schema.specs.declared.pattern.Pattern.{Pattern, Pattern-F}
use Rattle.mp_schema.specs.declared.pattern.PBound.{PBound, PBound-F}
use Rattle.mp_schema.specs.declared.pattern.Pattern.TheOpen as layer
use Rattle.mp_schema.specs.declared.pattern.Pattern.TheFolds.{fold-Pattern, fold-PBound}
use Rattle.mp_schema.specs.declared.schema.Item.{Item}
use Rattle.mp_schema.specs.declared.schema.Item.TheVariants.{Ctx, Hyp}
use Rattle.mp_schema.specs.declared.schema.Schema.{Schema}

-- the item is in the list
abbrev pub In : {X : Type 0} → X → List X → Type 0
In x [] = ⊥
In x (y ∷ ys) = (y ≡ x) ⊎ In x ys

-- ## Second-order variables and contexts

-- a place where a context is an item, or where a second-order variable stands, with its list of contexts and, for each
-- argument, its level if it is a variable
pub record Occurrence : Type 0 where
  pub is_context : Bool
  pub name : Sym
  pub ctxs : List Sym
  pub levels : List (Option ℕ)

-- what a pattern shows: its level if it is a variable, and its occurrences in the order of the text
pub record Shown : Type 0 where
  pub level : Option ℕ
  pub occurrences : List Occurrence

-- the occurrences that these show, one after the other
abbrev pub occurrences_shown : List Shown → List Occurrence
occurrences_shown args = flat_map (λ (a : Shown). a.occurrences) args

-- what one layer of a pattern shows, from what its parts show
abbrev pub shown_step : Pattern-F Shown (List Occurrence) → Shown
shown_step (layer.Var level) = record { level = Some level; occurrences = [] }
shown_step (layer.Op op params subs) = record { level = None; occurrences = flat_map (λ os. os) subs }
shown_step (layer.Meta name ctxs args) = record {
  level = None;
  occurrences =
      record { is_context = false; name = name; ctxs = ctxs; levels = map (λ (a : Shown). a.level) args } ∷ occurrences_shown args;
}

-- the occurrences that a bound body shows
abbrev pub shown_bound_step : PBound-F Shown (List Occurrence) → List Occurrence
shown_bound_step b = b.body.occurrences

-- what a pattern shows
abbrev pub shown : Pattern → Shown
shown = fold-Pattern Shown (List Occurrence) shown_step shown_bound_step

-- the occurrences in a bound body
abbrev pub occurrences_in_bound : PBound → List Occurrence
occurrences_in_bound = fold-PBound Shown (List Occurrence) shown_step shown_bound_step

-- the level of a pattern that is a variable
abbrev pub variable_level : Pattern → Option ℕ
variable_level p = (shown p).level

-- the second-order variables of a pattern, in the order of the text
abbrev pub occurrences_in : Pattern → List Occurrence
occurrences_in p = (shown p).occurrences

-- the occurrences of an item: the context if it is one, and then those of its patterns
abbrev pub occurrences_in_item : Item → List Occurrence
occurrences_in_item (Hyp p) = occurrences_in p
occurrences_in_item (Ctx name ctxs args) =
    record { is_context = true; name = name; ctxs = ctxs; levels = map variable_level args } ∷ flat_map occurrences_in args

-- the occurrences in all items of a schema, and then in its conclusion
abbrev pub occurrences_in_schema : Schema → List Occurrence
occurrences_in_schema s = flat_map occurrences_in_item s.items ++ occurrences_in s.concl

-- the first occurrence of this name
abbrev pub first_named : List Occurrence → Sym → Option Occurrence
first_named os name = find (λ o. nat_eq o.name.0 name.0) os

-- ## Holes

-- the names of the holes among the parameters
abbrev pub hole_in_param : ParamPat → List Sym
hole_in_param (Lit p) = []
hole_in_param (Hole name) = name ∷ []

-- the holes of one layer of a pattern: its parameters', and then its parts'
abbrev pub holes_step : Pattern-F (List Sym) (List Sym) → List Sym
holes_step (layer.Var level) = []
holes_step (layer.Op op params subs) = flat_map hole_in_param params ++ flat_map (λ hs. hs) subs
holes_step (layer.Meta name ctxs args) = flat_map (λ hs. hs) args

-- the holes of a bound body are its pattern's
abbrev pub holes_bound_step : PBound-F (List Sym) (List Sym) → List Sym
holes_bound_step b = b.body

-- the names of the holes of a pattern, in the order of the text
abbrev pub holes_in : Pattern → List Sym
holes_in = fold-Pattern (List Sym) (List Sym) holes_step holes_bound_step

-- the names of the holes of a bound body
abbrev pub holes_in_bound : PBound → List Sym
holes_in_bound = fold-PBound (List Sym) (List Sym) holes_step holes_bound_step

-- the names of the holes of an item
abbrev pub holes_in_item : Item → List Sym
holes_in_item (Hyp p) = holes_in p
holes_in_item (Ctx name ctxs args) = flat_map holes_in args

-- the names of the holes of all items of a schema, and then of its conclusion
abbrev pub holes_in_schema : Schema → List Sym
holes_in_schema s = flat_map holes_in_item s.items ++ holes_in s.concl
