-- Laws of substitution: how the list of terms grows under binders.
use Rattle.std.proofs.Common.{◌≡◌, ℕ, ◌+◌, ◌-◌, ◌<◌, ◌≤◌, List, [], ◌∷◌, ◌++◌, length, map, get_or, zero, IsTrue, suc, refl, sym, ap, ◌∙◌, append-nil, add-one, drop, arith}
use Rattle.std.proofs.Math.Seq.{drop-cons}
use Rattle.std.proofs.lemmas.Bool.Decides.{nat_tests}
use Rattle.std.proofs.lemmas.List.{map-append, get_or-map, get_or-append_right, get_or_append_left, length-map, length-append}
use Rattle.std.proofs.lemmas.Grind.{common_steps}
use Rattle.mp_term.specs.declared.term.Term.{Term, Var}
use Rattle.mp_term.specs.Terms.{in_scope_of}
use Rattle.mp_term.proofs.Layers.{weak-Var}
use Rattle.mp_term.specs.Subst.{weak, variables, under, widest_in, widest_of, AreInScope}
use Rattle.mp_term.proofs.WeakLaws.{weak-weak, weak-none}

pub length-variables : (m k : ℕ) → length (variables m k) ≡ k
length-variables m zero = refl
length-variables m (suc k) = omega (arith, length-variables (suc m) k)

pub variables-append : (m k j : ℕ) → variables m k ++ variables (m + k) j ≡ variables m (k + j)
variables-append m zero j = grind arith
variables-append m (suc k) j =
    let e1 : m + suc k ≡ suc m + k = omega arith in
    let e2 : suc k + j ≡ suc (k + j) = omega arith in
    rw (e1, e2) (ap (λ vs. Var m ∷ vs) (variables-append (suc m) k j))

-- variables below n stay
pub map-weak-variables : (n j i k : ℕ) → i + k ≤ n → map (weak n j) (variables i k) ≡ variables i k
map-weak-variables n j i zero h = refl
map-weak-variables n j i (suc k) h =
    let ih = map-weak-variables n j (suc i) k (omega arith) in
    simp weak-Var (grind (arith, nat_tests, ih))

map-weak-weak : (m k j : ℕ) (s : List Term) → map (weak (m + k) j) (map (weak m k) s) ≡ map (weak m (k + j)) s
map-weak-weak m k j [] = refl
map-weak-weak m k j (t ∷ s) = grind (arith, weak-weak m k j t, map-weak-weak m k j s)

pub under-under : (s : List Term) (m k j : ℕ) → under (under s m k) (m + k) j ≡ under s m (k + j)
unfolding under
under-under s m k j =
    let e1 = map-append (weak (m + k) j) (map (weak m k) s) (variables m k) in
    let e2 = map-weak-weak m k j s in
    let e3 = map-weak-variables (m + k) j m k (omega arith) in
    let e4 = variables-append m k j in
    grind (arith, common_steps, e1, e2, e3, e4)

pub get_or-variables : (m k i : ℕ) (d : Term) → i < k → get_or (variables m k) i d ≡ Var (m + i)
get_or-variables m zero i d h = absurd (omega arith)
get_or-variables m (suc k) zero d h = grind arith
get_or-variables m (suc k) (suc i) d h =
    let e : m + suc i ≡ suc m + i = omega arith in
    rw e (get_or-variables (suc m) k i d (omega arith))

-- a variable of the list becomes its term
pub under-low : (s : List Term) (m k i : ℕ) (d e : Term) → i < length s → get_or (under s m k) i d ≡ weak m k (get_or s i e)
unfolding under
under-low s m k i d e h =
    get_or_append_left (map (weak m k) s) (variables m k) d i (grind (arith, common_steps)) ∙ get_or-map (weak m k) s i e d h

-- and a later one follows the variables of the new scope
pub under-high : (s : List Term) (m k i : ℕ) (d : Term) → length s ≤ i → i < length s + k → get_or (under s m k) i d ≡ Var (m + (i - length s))
unfolding under
under-high s m k i d low high =
    get_or-append_right (map (weak m k) s) (variables m k) (length s) i d (grind (arith, common_steps)) low
    ∙ get_or-variables m k (i - length s) d (omega arith)

pub length-under : (s : List Term) (m k : ℕ) → length (under s m k) ≡ length s + k
unfolding under
length-under s m k = simp (length-append, length-map, length-variables) refl

pub widest_in-ge : (m : ℕ) (ts : List Term) → m ≤ widest_in m ts
unfolding widest_in
widest_in-ge m [] = omega arith
widest_in-ge m (t ∷ ts) = omega (arith, widest_in-ge m ts)

pub widest_in-at : (m : ℕ) (ts : List Term) (i : ℕ) (d : Term) → i < length ts → widest_of (get_or ts i d) m ≤ widest_in m ts
unfolding widest_in
widest_in-at m [] i d h = absurd (omega arith)
widest_in-at m (t ∷ ts) zero d h = omega arith
widest_in-at m (t ∷ ts) (suc i) d h = omega (arith, widest_in-at m ts i d (omega arith))

pub AreInScope-at : (m : ℕ) (ts : List Term) (i : ℕ) (d : Term) → i < length ts → AreInScope m ts → IsTrue (in_scope_of (get_or ts i d) m)
unfolding AreInScope
AreInScope-at m ts i d h all = all i d h

pub under-none : (s : List Term) (m : ℕ) → under s m 0 ≡ s
unfolding under
under-none s m = append-nil (map (weak m 0) s) ∙ unchanged s where
  unchanged : (ts : List Term) → map (weak m 0) ts ≡ ts
  unchanged [] = refl
  unchanged (t ∷ ts) = grind (arith, weak-none m t, unchanged ts)

pub ruleset reads = (under-low, under-high, widest_in-ge, widest_in-at, AreInScope-at)

pub ruleset none_under = (under-none)

-- the list from i on begins with the item at i
pub drop-at : {X : Type 0} (xs : List X) (i : ℕ) (x : X) → i < length xs → x ≡ get_or xs i x → drop i xs ≡ x ∷ drop (i + 1) xs
drop-at xs i x h is = rw (add-one, drop-cons xs i x h) (ap (λ y. y ∷ drop (suc i) xs) (sym is))
