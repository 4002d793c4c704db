-- The hypotheses of a context are determined by their terms.
use Rattle.std.proofs.Common.{◌≡◌, ℕ, ◌+◌, ◌<◌, List, [], ◌∷◌, ◌++◌, length, map, true, nat_eq, IsTrue, All, Option, Some, None, refl}
use Rattle.std.specs.List.{IsDistinct}
use Rattle.std.proofs.lemmas.List.{length-append}
use Rattle.mp_term.specs.declared.term.Term.{Term, Var}
use Rattle.mp_term.specs.Terms.{in_scope_of}
use Rattle.mp_term.specs.Limits.{in_scopes_from}
use Rattle.mp_term.specs.Subst.{sub_of, unrenamed}
use Rattle.mp_match.specs.Walks.{kept_with, kept_found}
use Rattle.mp_term.proofs.EqualTerms.{both_true, and_true}
use Rattle.mp_schema.proofs.Rows.{placed_from, next-distinct, next-below}
use Rattle.mp_match.proofs.Steps.{undone, restored}

abbrev Parts : List ℕ → ℕ → List Term → List Term → Type 0
Parts levels m ts us = (placed_from levels m us ≡ ts) × IsTrue (in_scopes_from (length levels) us)

long : (levels : List ℕ) (m : ℕ) → length (levels ++ m ∷ []) ≡ length levels + 1
long levels m = length-append levels (m ∷ [])

with-parts : (levels : List ℕ) (m : ℕ) (t : Term) (ts us : List Term) (o : Option Term) (r : Option (List Term)) →
    ((u : Term) → o ≡ Some u → (sub_of u (map Var levels) m ≡ t) × IsTrue (in_scope_of u (length levels))) →
    ((rest : List Term) → r ≡ Some rest → Parts (levels ++ m ∷ []) (m + 1) ts rest) → kept_with o r ≡ Some us → Parts levels m (t ∷ ts) us
with-parts levels m t ts us None r ho hr e = absurd (cc)
with-parts levels m t ts us (Some u) None ho hr e = absurd (cc)
with-parts levels m t ts us (Some u) (Some rest) ho hr e =
    let is : us ≡ u ∷ rest = cc in
    let a = ho u refl in
    let b = hr rest refl in
    rw is (rw (a.0, b.0) refl, and_true (in_scope_of u (length levels)) (in_scopes_from (length levels + 1) rest) a.1 (rw (long levels m) at b.1))

-- what is kept gives the hypotheses
pub kept-sound : (levels : List ℕ) (m : ℕ) (ts us : List Term) → IsDistinct nat_eq levels → All (λ l. l < m) levels → in_scopes_from m ts ≡ true →
    kept_found levels m ts ≡ Some us → (placed_from levels m us ≡ ts) × IsTrue (in_scopes_from (length levels) us)
kept-sound levels m [] us d b s e = let is : us ≡ [] = cc in rw is (refl, refl)
kept-sound levels m (t ∷ ts) us d b s e =
    let k = both_true (in_scope_of t m) (in_scopes_from (m + 1) ts) s in
    with-parts levels m t ts us (unrenamed levels m t) (kept_found (levels ++ m ∷ []) (m + 1) ts)
    (λ u is. restored levels m t d b k.0 u is)
    (λ rest is. kept-sound (levels ++ m ∷ []) (m + 1) ts rest (next-distinct levels m d b) (next-below levels m b) k.1 is) e

-- and no other terms do
pub kept-complete : (levels : List ℕ) (m : ℕ) (ts us : List Term) → IsDistinct nat_eq levels → All (λ l. l < m) levels → in_scopes_from m ts ≡ true →
    in_scopes_from (length levels) us ≡ true → placed_from levels m us ≡ ts → kept_found levels m ts ≡ Some us
kept-complete levels m [] [] d b s h e = refl
kept-complete levels m [] (u ∷ us) d b s h e = absurd (cc)
kept-complete levels m (t ∷ ts) [] d b s h e = absurd (cc)
kept-complete levels m (t ∷ ts) (u ∷ us) d b s h e =
    let k = both_true (in_scope_of t m) (in_scopes_from (m + 1) ts) s in
    let q = both_true (in_scope_of u (length levels)) (in_scopes_from (length levels + 1) us) h in
    let first : sub_of u (map Var levels) m ≡ t = cc in
    let rest : placed_from (levels ++ m ∷ []) (m + 1) us ≡ ts = cc in
    let one = undone levels m t d b k.0 u q.0 first in
    let others = kept-complete (levels ++ m ∷ []) (m + 1) ts us (next-distinct levels m d b) (next-below levels m b) k.1 (rw (long levels m) q.1) rest in
    rw (one, others) refl
