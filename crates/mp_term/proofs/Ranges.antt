-- Ranges of numbers, and the variables of a pattern's levels.
use Rattle.std.proofs.Common.{◌≡◌, ℕ, ◌+◌, ◌-◌, ◌<◌, ◌≤◌, List, [], ◌∷◌, ◌++◌, length, map, get_or, zero, suc, true, false, nat_eq, inl, inr, refl, ap, ◌∙◌, arith}
use Rattle.std.proofs.lemmas.Bool.{cases_lt}
use Rattle.std.proofs.lemmas.Bool.Decides.{nat_tests}
use Rattle.std.proofs.lemmas.List.{get_or-append_right, get_or_append_left}
use Rattle.std.proofs.lemmas.Grind.{common_steps}
use Rattle.mp_term.specs.declared.term.Term.{Var}
use Rattle.mp_term.specs.Subst.{variables, upto, is_listed}

pub length-upto : (m k : ℕ) → length (upto m k) ≡ k
length-upto m zero = refl
length-upto m (suc k) = omega (arith, length-upto (suc m) k)

pub upto-next : (m k : ℕ) → upto m (k + 1) ≡ upto m k ++ (m + k) ∷ []
upto-next m zero = grind arith
upto-next m (suc k) =
    let e1 : suc k + 1 ≡ suc (k + 1) = omega arith in
    let e2 : m + suc k ≡ suc m + k = omega arith in
    rw (e1, e2) (ap (λ xs. m ∷ xs) (upto-next (suc m) k))

pub upto-append : (m k j : ℕ) → upto m k ++ upto (m + k) j ≡ upto m (k + j)
upto-append m zero j = grind arith
upto-append m (suc k) j =
    let e1 : m + suc k ≡ suc m + k = omega arith in
    let e2 : suc k + j ≡ suc (k + j) = omega arith in
    rw (e1, e2) (ap (λ xs. m ∷ xs) (upto-append (suc m) k j))

pub get_or-upto : (m k i d : ℕ) → i < k → get_or (upto m k) i d ≡ m + i
get_or-upto m zero i d h = absurd (omega arith)
get_or-upto m (suc k) zero d h = grind arith
get_or-upto m (suc k) (suc i) d h =
    let e : m + suc i ≡ suc m + i = omega arith in
    rw e (get_or-upto (suc m) k i d (omega arith))

pub map-Var-upto : (m k : ℕ) → map Var (upto m k) ≡ variables m k
map-Var-upto m zero = refl
map-Var-upto m (suc k) = ap (λ vs. Var m ∷ vs) (map-Var-upto (suc m) k)

-- a level of a pattern is a named hypothesis or a binder
pub level-named : (xs : List ℕ) (m k i d e : ℕ) → i < length xs → get_or (xs ++ upto m k) i d ≡ get_or xs i e
level-named xs m k i d e h = get_or_append_left xs (upto m k) d i h ∙ grind (arith, common_steps)

pub level-bound : (xs : List ℕ) (m k i d : ℕ) → length xs ≤ i → i < length xs + k → get_or (xs ++ upto m k) i d ≡ m + (i - length xs)
level-bound xs m k i d low high =
    get_or-append_right xs (upto m k) (length xs) i d refl low ∙ get_or-upto m k (i - length xs) d (omega arith)

-- ## Listed numbers

pub listed-upto : (i m k : ℕ) → m ≤ i → i < m + k → is_listed i (upto m k) ≡ true
listed-upto i m zero low high = absurd (omega arith)
listed-upto i m (suc k) low high = elim (cases_lt m i) [
  | inl less ↦ let r = listed-upto i (suc m) k (omega arith) (omega arith) in grind (arith, nat_tests, common_steps, r)
  | inr same ↦ let e : nat_eq m i ≡ true = grind (arith, nat_tests) in grind (arith, common_steps, e)
]

pub not-listed-upto : (i m k : ℕ) → i < m → is_listed i (upto m k) ≡ false
not-listed-upto i m zero low = refl
not-listed-upto i m (suc k) low =
    let r = not-listed-upto i (suc m) k (omega arith) in
    let e : nat_eq m i ≡ false = grind (arith, nat_tests) in grind (arith, common_steps, r, e)
