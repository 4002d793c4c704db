-- Tables of values by name.
use Rattle.std.specs.Prelude.{◌≡◌, ℕ, List, [], ◌∷◌, ⊤}

module _ {V : Type 0} (name : V → ℕ) where
  -- each value stands under its own name
  abbrev pub AreNamed : List (ℕ × V) → Type 0
  AreNamed [] = ⊤
  AreNamed (e ∷ es) = (e.0 ≡ name e.1) × AreNamed es
