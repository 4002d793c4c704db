-- The least fault is the least.
use Rattle.std.proofs.Common.{◌≡◌, ◌⊎◌, ◌++◌, inl, inr, ℕ, List, [], ◌∷◌, Option, Some, Bool, true, false, nat_lt, nat_eq, ◌&&◌, ◌||◌, refl, sym, subst, arith}
use Rattle.std.proofs.lemmas.Bool.Decides.{nat_tests}
use Rattle.mp_words.specs.declared.fail.TextErr.{TextErr}
use Rattle.mp_words.specs.Faults.{least_from, is_sooner, rank_of, sooner, NoneSooner, IsOneOf, IsLeastOf, LeastIsLeast}

abbrev first : ℕ → ℕ → ℕ → ℕ → Bool
first a r b q = nat_lt a b || (nat_eq a b && nat_lt r q)

not_itself : (a r : ℕ) → first a r a r ≡ false
not_itself a r = grind (arith, nat_tests)

-- where g is before h and not before f, h isn't before f
after_sooner : (a r b q c p : ℕ) → first a r b q ≡ true → first a r c p ≡ false → first b q c p ≡ false
after_sooner a r b q c p e f = grind (arith, nat_tests, e, f)

after_later : (a r b q c p : ℕ) → first a r b q ≡ false → first b q c p ≡ false → first a r c p ≡ false
after_later a r b q c p e f = grind (arith, nat_tests, e, f)

abbrev Found : TextErr → List TextErr → Type 0
Found h fs = (f : TextErr) × (least_from (Some h) fs ≡ Some f) × (is_sooner h f ≡ false) × NoneSooner f fs × ((f ≡ h) ⊎ IsOneOf f fs)

choose : (h g : TextErr) (gs : List TextErr) (b : Bool) → is_sooner g h ≡ b → Found g gs → Found h gs → Found h (g ∷ gs)
choose h g gs true e one two =
    let f = one.0 in
    (f, rw e one.1, after_sooner g.at (rank_of g.why) h.at (rank_of h.why) f.at (rank_of f.why) e one.2, (one.2, one.3), inr one.4)
choose h g gs false e one two =
    let f = two.0 in
    (f, rw e two.1, two.2, (after_later g.at (rank_of g.why) h.at (rank_of h.why) f.at (rank_of f.why) e two.2, two.3), elim two.4 as (λ s. (f ≡ h) ⊎ IsOneOf f (g ∷ gs)) [ inl q ↦ inl q | inr q ↦ inr (inr q) ])

least_some : (h : TextErr) (fs : List TextErr) → Found h fs
least_some h [] = (h, refl, not_itself h.at (rank_of h.why), tt, inl refl)
least_some h (g ∷ gs) = choose h g gs (is_sooner g h) refl (least_some g gs) (least_some h gs)

pub least_is_least : LeastIsLeast
least_is_least [] = refl
least_is_least (h ∷ fs) = let a = least_some h fs in subst (IsLeastOf (h ∷ fs)) (sym a.1) (a.4, (a.2, a.3))

-- the least of two lists, one after the other
pub least_from_append : (held : Option TextErr) (fs gs : List TextErr) → least_from held (fs ++ gs) ≡ least_from (least_from held fs) gs
least_from_append held [] gs = refl
least_from_append held (f ∷ fs) gs = least_from_append (sooner held f) fs gs
