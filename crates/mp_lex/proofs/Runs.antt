-- The longest front of a list that passes a test.
use Rattle.std.proofs.Common.{◌≡◌, ℕ, ◌+◌, suc, List, [], ◌∷◌, take, Bool, true, false, refl, ap, ◌∙◌, arith}
use Rattle.std.specs.Prelude.{cond, ◌&&◌}
use Rattle.std.specs.List.{list_all, prefix_len}

-- one more byte taken
pub take_next : {A : Type 0} (n : ℕ) (x : A) (xs : List A) → take (1 + n) (x ∷ xs) ≡ x ∷ take n xs
take_next n x xs = let e : 1 + n ≡ suc n = omega arith in ap (λ k. take k (x ∷ xs)) e

-- each of the bytes passes
pub run_passes : (p : ℕ → Bool) (xs : List ℕ) → list_all p (take (prefix_len p xs) xs) ≡ true
run_passes p [] = refl
run_passes p (x ∷ xs) = run_passes_cons p x xs (p x) refl (run_passes p xs)
  where
    run_passes_cons : (p : ℕ → Bool) (x : ℕ) (xs : List ℕ) (t : Bool) → p x ≡ t → list_all p (take (prefix_len p xs) xs) ≡ true → list_all p (take (prefix_len p (x ∷ xs)) (x ∷ xs)) ≡ true
    run_passes_cons p x xs true e h = ap (λ t. list_all p (take (cond t (1 + prefix_len p xs) 0) (x ∷ xs))) e ∙ ap (list_all p) (take_next (prefix_len p xs) x xs) ∙ ap (λ t. t && list_all p (take (prefix_len p xs) xs)) e ∙ h
    run_passes_cons p x xs false e h = ap (λ t. list_all p (take (cond t (1 + prefix_len p xs) 0) (x ∷ xs))) e
