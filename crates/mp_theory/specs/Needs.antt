-- What a rule's premises need that its conclusion doesn't have.
use Rattle.std.specs.Prelude.{List, [], ◌∷◌, ◌++◌, map, length, Bool, false, nat_eq, ◌||◌, if◌then◌else◌}
use Rattle.mp_logic.specs.declared.sym.Sym.{Sym}
use Rattle.mp_schema.specs.declared.pattern.Pattern.{Pattern, Pattern-F}
use Rattle.mp_schema.specs.declared.pattern.PBound.{PBound, PBound-F}
use Rattle.mp_schema.specs.declared.pattern.Pattern.TheOpen as layer
use Rattle.mp_schema.specs.declared.pattern.Pattern.TheFolds.{fold-Pattern, fold-PBound}
use Rattle.mp_schema.specs.declared.schema.Item.{Item}
use Rattle.mp_schema.specs.declared.schema.Item.TheVariants.{Ctx, Hyp}
use Rattle.mp_schema.specs.declared.schema.Schema.{Schema}
use Rattle.mp_theory.specs.declared.rule.Need.{Need}

-- lists, one after the other
abbrev pub all_uses : List (List Need) → List Need
all_uses [] = []
all_uses (x ∷ xs) = x ++ all_uses xs

-- a second-order variable is a use, and then come those in its arguments
abbrev pub uses_step : Pattern-F (List Need) (List Need) → List Need
uses_step (layer.Var level) = []
uses_step (layer.Op op params subs) = all_uses subs
uses_step (layer.Meta name ctxs args) = record { name = name; ctxs = ctxs; arity = length args } ∷ all_uses args

-- the uses in a bound body are its pattern's
abbrev pub uses_bound_step : PBound-F (List Need) (List Need) → List Need
uses_bound_step b = b.body

-- each use of a second-order variable in the pattern, in the order of the text
abbrev pub uses_of : Pattern → List Need
uses_of = fold-Pattern (List Need) (List Need) uses_step uses_bound_step

-- each use in a bound body
abbrev pub uses_bound : PBound → List Need
uses_bound = fold-PBound (List Need) (List Need) uses_step uses_bound_step

-- each use in an item
abbrev pub item_uses : Item → List Need
item_uses (Hyp p) = uses_of p
item_uses (Ctx name ctxs args) = all_uses (map uses_of args)

-- each use in the schema
abbrev pub schema_uses : Schema → List Need
schema_uses s = all_uses (map item_uses s.items) ++ uses_of s.concl

-- a need of this name is in the list
abbrev pub is_needed : List Need → Sym → Bool
is_needed [] name = false
is_needed (x ∷ xs) name = nat_eq x.name.0 name.0 || is_needed xs name

module _ (skip : List Need) where
  -- what is held once this use is met
  abbrev pub joined_by : List Need → Need → List Need
  joined_by held u = if is_needed skip u.name || is_needed held u.name then held else held ++ u ∷ []

  -- what is held, and then the first use of each further name but those to be skipped
  abbrev pub first_uses : List Need → List Need → List Need
  first_uses held [] = held
  first_uses held (u ∷ us) = first_uses (joined_by held u) us

-- the second-order variables of the premises that the conclusion doesn't have, in the order of their first uses
abbrev pub needs_of : List Schema → Schema → List Need
needs_of premises concl = first_uses (first_uses [] [] (schema_uses concl)) [] (all_uses (map schema_uses premises))
