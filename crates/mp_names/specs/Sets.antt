-- The numbers of the names that were met.
use Rattle.std.specs.Prelude.{◌≡◌, ℕ, List, [], ◌∷◌, ◌++◌, Option, Bool, if◌then◌else◌, nat_eq, position}
use Rattle.std.specs.List.{list_any}
use Rattle.mp_logic.specs.declared.sym.Sym.{Sym}

-- whether a number is among those that were met
abbrev pub is_met : List ℕ → ℕ → Bool
is_met met n = list_any (nat_eq n) met

-- the place of a number among those that were met, counted from 0, or none
abbrev pub place_of : List ℕ → ℕ → Option ℕ
place_of met n = position (nat_eq n) met

-- the numbers once one more is met: one of them stays where it is, and a new one goes last
abbrev pub with_met : List ℕ → ℕ → List ℕ
with_met met n = if is_met met n then met else met ++ n ∷ []

-- whether a name is one of these
abbrev pub is_among : List Sym → Sym → Bool
is_among names name = list_any (λ other. nat_eq other.0 name.0) names

-- the numbers that were met are those of these names
abbrev pub Met : List ℕ → List Sym → Type 0
Met met names = (name : Sym) → is_met met name.0 ≡ is_among names name
