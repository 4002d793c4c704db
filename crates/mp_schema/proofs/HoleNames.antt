-- What a walk that meets the names of holes needs.
use Rattle.std.proofs.Common.{◌≡◌, ℕ, List, [], ◌∷◌, ◌||◌, nat_eq, refl, ap, ◌∙◌}
use Rattle.std.proofs.lemmas.Grind.{common_steps}
use Rattle.mp_logic.specs.declared.sym.Sym.{Sym}
use Rattle.mp_names.specs.Sets.{is_met, with_met}
use Rattle.mp_names.proofs.Meeting.{eq_comm, met_with}
use Rattle.mp_schema.specs.Conditions.{has}
use Rattle.mp_schema.specs.Tables.{names_met}
use Rattle.mp_schema.proofs.Layers.{holes_in-Op, holes_in-Meta, holes_in_bound-is}
use Rattle.mp_schema.proofs.Names.{has-append, or_assoc}

-- to meet the names that are left gives the same set as to meet all of them from the start
abbrev pub IsOnTheWay : List ℕ → List Sym → List ℕ → List Sym → Type 0
IsOnTheWay start all now left = (name : Sym) → (is_met now name.0 || has left name) ≡ (is_met start name.0 || has all name)

pub met_here : (met : List ℕ) (name other : Sym) → is_met (with_met met name.0) other.0 ≡ (is_met met other.0 || nat_eq name.0 other.0)
met_here met name other = met_with met name.0 other.0 ∙ ap (λ b. is_met met other.0 || b) (eq_comm other.0 name.0)

pub ruleset meeting = (common_steps, has-append, or_assoc, met_here, holes_in-Op, holes_in-Meta, holes_in_bound-is)

-- the names that were met are those of their numbers
pub has_met : (met : List ℕ) (name : Sym) → is_met met name.0 ≡ has (names_met met) name
has_met [] name = refl
has_met (n ∷ met) name = ap (λ b. b || is_met met name.0) (eq_comm name.0 n) ∙ ap (λ b. nat_eq n name.0 || b) (has_met met name)
