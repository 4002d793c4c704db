-- Places in a schema, and what has been matched on their left.
use Rattle.std.specs.Prelude.{ℕ, ◌+◌, ◌-◌, ◌<◌, ◌≤◌, List, [], ◌∷◌, ◌++◌, length, nat_eq, IsTrue, All}
use Rattle.std.specs.List.{IsDistinct}
use Rattle.mp_logic.specs.declared.sym.Sym.{Sym}
use Rattle.mp_schema.specs.declared.instance.CtxVal.{CtxVal}
use Rattle.mp_schema.specs.Instances.{Ground}
use Rattle.mp_term.specs.Subst.{upto}
use Rattle.mp_schema.specs.Conditions.{Before, is_known}
use Rattle.mp_schema.specs.Values.{variables_of, kept_of, first_variable_of}
use Rattle.mp_match.specs.declared.place.Position.{Position}

-- the names of the contexts, the last one first
abbrev pub names_of : List CtxVal → List Sym
names_of [] = []
names_of (c ∷ ctxs) = names_of ctxs ++ c.name ∷ []

-- what stands before the place in its schema
abbrev pub before : Position → Before
before place = record { named = length place.named; contexts = names_of place.ctxs }

-- the variables that a value has before its arguments, at this place
abbrev pub ground_of : Position → Ground
ground_of place names = upto 0 place.ambient ++ variables_of place.ctxs names

-- the variable of each level of a pattern at this place, under binders up to this scope
abbrev pub levels_at : Position → ℕ → List ℕ
levels_at place scope = place.named ++ upto place.next (scope - place.next)

-- each variable of the ambient scope, of the contexts and of the named hypotheses is another one, below the place's scope
pub record IsUsable (place : Position) : Type 0 where
  pub ends : (name : Sym) → first_variable_of place.ctxs name + length (kept_of place.ctxs name) ≤ place.next
  pub distinct : (names : List Sym) → IsTrue (is_known (names_of place.ctxs) names) → IsDistinct nat_eq (ground_of place names ++ place.named)
  pub below : (names : List Sym) → IsTrue (is_known (names_of place.ctxs) names) → All (λ l. l < place.next) (ground_of place names ++ place.named)
