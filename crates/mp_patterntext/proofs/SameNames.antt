-- Lists of other lengths don't have the same names.
use Rattle.std.proofs.Common.{◌≡◌, List, [], ◌∷◌, length, suc, Bool, true, false, ◌&&◌, nat_eq, refl, ap}
use Rattle.mp_logic.specs.declared.sym.Sym.{Sym}
use Rattle.mp_schema.specs.Faults.{same_names}

pub other_lengths : (xs ys : List Sym) → (length xs ≡ length ys → ⊥) → false ≡ same_names xs ys
other_lengths [] [] h = absurd (h refl)
other_lengths [] (y ∷ ys) h = refl
other_lengths (x ∷ xs) [] h = refl
other_lengths (x ∷ xs) (y ∷ ys) h = by (nat_eq x.0 y.0) (other_lengths xs ys (λ e. h (ap suc e)))
  where
    by : (b : Bool) → false ≡ same_names xs ys → false ≡ (b && same_names xs ys)
    by true e = e
    by false e = refl
