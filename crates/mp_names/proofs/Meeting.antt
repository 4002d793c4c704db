-- What holds of the names that were met.
use Rattle.std.proofs.Common.{◌≡◌, ℕ, List, [], ◌∷◌, ◌++◌, Bool, true, false, ◌||◌, if◌then◌else◌, nat_eq, refl, sym, ap, subst, ◌∙◌}
use Rattle.std.proofs.lemmas.List.Folds.{list_any-append}
use Rattle.std.proofs.lemmas.Bool.{eqb-true}
use Rattle.mp_logic.specs.declared.sym.Sym.{Sym}
use Rattle.mp_names.specs.Sets.{is_met, with_met, is_among, Met}

or_false : (b : Bool) → (b || false) ≡ b
or_false true = refl
or_false false = refl

or_comm : (b c : Bool) → (b || c) ≡ (c || b)
or_comm true true = refl
or_comm true false = refl
or_comm false true = refl
or_comm false false = refl

pub eq_comm : (m n : ℕ) → nat_eq m n ≡ nat_eq n m
eq_comm m n = by (nat_eq m n) (nat_eq n m) refl refl
  where
    by : (b c : Bool) → nat_eq m n ≡ b → nat_eq n m ≡ c → b ≡ c
    by true true e f = refl
    by false false e f = refl
    by true false e f = let is = eqb-true m n e in cc
    by false true e f = let is = eqb-true n m f in cc

-- one more number is met
pub met_with : (met : List ℕ) (n m : ℕ) → is_met (with_met met n) m ≡ (is_met met m || nat_eq m n)
met_with met n m = by (is_met met n) refl
  where
    by : (b : Bool) → is_met met n ≡ b → is_met (if b then met else met ++ n ∷ []) m ≡ (is_met met m || nat_eq m n)
    by false e = list_any-append (nat_eq m) met (n ∷ []) ∙ ap (λ c. is_met met m || c) (or_false (nat_eq m n))
    by true e = within (nat_eq m n) refl
      where
        within : (c : Bool) → nat_eq m n ≡ c → is_met met m ≡ (is_met met m || c)
        within false f = sym (or_false (is_met met m))
        within true f = let is = eqb-true m n f in (subst (λ k. is_met met k ≡ true) (sym is) e) ∙ sym (or_comm (is_met met m) true)

-- the names that were met are those of the list with the new one
pub meeting : (met : List ℕ) (names : List Sym) (name : Sym) → Met met names → Met (with_met met name.0) (names ++ name ∷ [])
meeting met names name h other =
    met_with met name.0 other.0 ∙ ap (λ b. b || nat_eq other.0 name.0) (h other)
    ∙ ap (λ b. is_among names other || b) (eq_comm other.0 name.0 ∙ sym (or_false (nat_eq name.0 other.0)))
    ∙ sym (list_any-append (λ n. nat_eq n.0 other.0) names (name ∷ []))
