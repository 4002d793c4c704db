-- The hypotheses of a context, one after the other.
use Rattle.std.proofs.Common.{◌≡◌, ℕ, ◌+◌, ◌<◌, ◌≤◌, ◌^◌, List, [], ◌∷◌, ◌++◌, length, get_or, drop, take, zero, suc, max, true, nat_eq, IsTrue, All, Option, Some, None, append_assoc, append-nil, refl, sym, ap, ◌∙◌, arith}
use Rattle.std.specs.Option.{option_map}
use Rattle.std.specs.List.{IsDistinct}
use Rattle.std.proofs.Math.ListN.{drop_of_length-le}
use Rattle.mp_term.specs.declared.term.Term.{Term}
use Rattle.mp_term.specs.Terms.{in_scope_of}
use Rattle.mp_term.specs.Limits.{in_scopes_from}
use Rattle.mp_term.specs.Subst.{widest_of, IsRenaming, widest_from}
use Rattle.mp_term.proofs.SubLaws.{drop-at}
use Rattle.mp_match.specs.Walks.{kept_with, kept_found}
use Rattle.mp_term.proofs.EqualTerms.{both_true}
use Rattle.mp_match.proofs.Steps.{renaming-is}
use Rattle.mp_schema.proofs.Rows.{next-distinct, next-below}

-- ## Widths and scopes of hypotheses

pub widest_from-ge : (m : ℕ) (ts : List Term) → m + length ts ≤ widest_from m ts
widest_from-ge m [] = omega arith
widest_from-ge m (t ∷ ts) = let r = widest_from-ge (m + 1) ts in omega (arith, r)

pub widest_from-drop : (m k : ℕ) (ts : List Term) → widest_from (m + k) (drop k ts) ≤ max (m + k) (widest_from m ts)
widest_from-drop m zero ts = let e : m + 0 ≡ m = omega arith in rw e (omega arith)
widest_from-drop m (suc k) [] = omega arith
widest_from-drop m (suc k) (t ∷ ts) =
    let r = widest_from-drop (m + 1) k ts in
    let e : m + suc k ≡ m + 1 + k = omega arith in
    rw e (omega (arith, r))

pub widest_from-take : (m k : ℕ) (ts : List Term) → widest_from m (take k ts) ≤ widest_from m ts
widest_from-take m zero ts = let r = widest_from-ge m ts in omega (arith, r)
widest_from-take m (suc k) [] = omega arith
widest_from-take m (suc k) (t ∷ ts) = let r = widest_from-take (m + 1) k ts in omega (arith, r)

pub in_scopes-drop : (m k : ℕ) (ts : List Term) → in_scopes_from m ts ≡ true → in_scopes_from (m + k) (drop k ts) ≡ true
in_scopes-drop m zero ts h = let e : m + 0 ≡ m = omega arith in rw e h
in_scopes-drop m (suc k) [] h = refl
in_scopes-drop m (suc k) (t ∷ ts) h =
    let e : m + suc k ≡ m + 1 + k = omega arith in
    rw e (in_scopes-drop (m + 1) k ts (both_true (in_scope_of t m) (in_scopes_from (m + 1) ts) h).1)

pub in_scopes-take : (m k : ℕ) (ts : List Term) → in_scopes_from m ts ≡ true → in_scopes_from m (take k ts) ≡ true
in_scopes-take m zero ts h = refl
in_scopes-take m (suc k) [] h = refl
in_scopes-take m (suc k) (t ∷ ts) h =
    let b = both_true (in_scope_of t m) (in_scopes_from (m + 1) ts) h in
    rw (b.0, in_scopes-take (m + 1) k ts b.1) refl

-- ## The loop

-- what the loop keeps
pub record Keeping (start : List ℕ) (first : ℕ) (hyps : List Term) (levels : List ℕ) (scope : ℕ) (kept : List Term) (i : ℕ) : Type 0 where
  pub distinct : IsDistinct nat_eq levels
  pub below : All (λ l. l < scope) levels
  pub scoped : IsTrue (in_scopes_from scope (drop i hyps))
  pub narrow : widest_from scope (drop i hyps) < 2 ^ 31
  pub same : option_map (λ rest. kept ++ rest) (kept_found levels scope (drop i hyps)) ≡ kept_found start first hyps

with-first : (kept : List Term) (t : Term) (o : Option (List Term)) →
    option_map (λ rest. kept ++ rest) (kept_with (Some t) o) ≡ option_map (λ rest. (kept ++ t ∷ []) ++ rest) o
with-first kept t None = refl
with-first kept t (Some rest) = ap Some (sym (append_assoc kept (t ∷ []) rest))

module _ (start : List ℕ) (first : ℕ) (hyps : List Term) (levels : List ℕ) (scope : ℕ) (kept : List Term) (i : ℕ) where
  pub Keeping-end : length hyps ≤ i → Keeping start first hyps levels scope kept i → Some kept ≡ kept_found start first hyps
  Keeping-end h k =
      let none = drop_of_length-le hyps h in
      let s = rw none at k.same in ap Some (sym (append-nil kept)) ∙ s

  module _ (t : Term) (lt : i < length hyps) (is : t ≡ get_or hyps i t) (k : Keeping start first hyps levels scope kept i) where
    next : drop i hyps ≡ t ∷ drop (i + 1) hyps
    next = drop-at hyps i t lt is

    both : IsTrue (in_scope_of t scope) × IsTrue (in_scopes_from (scope + 1) (drop (i + 1) hyps))
    both = both_true (in_scope_of t scope) (in_scopes_from (scope + 1) (drop (i + 1) hyps)) (rw next at k.scoped)

    pub here_scoped : IsTrue (in_scope_of t scope)
    here_scoped = both.0

    pub here_narrow : (widest_of t scope < 2 ^ 31) × (scope + 1 < 2 ^ 31)
    here_narrow =
        let w = rw next at k.narrow in
        let ge = widest_from-ge (scope + 1) (drop (i + 1) hyps) in
        (omega (arith, w), omega (arith, w, ge))

    pub Keeping-fails : IsRenaming levels scope t None → None ≡ kept_found start first hyps
    Keeping-fails r =
        let e = renaming-is levels scope t k.distinct k.below here_scoped None r in
        let s = rw (next, e) at k.same in s

    pub Keeping-next : (u : Term) (more : List Term) (levels' : List ℕ) → IsRenaming levels scope t (Some u) → more ≡ kept ++ u ∷ [] → levels' ≡ levels ++ scope ∷ [] →
        Keeping start first hyps levels' (scope + 1) more (i + 1)
    Keeping-next u more levels' r pushed pushed' =
        let e = renaming-is levels scope t k.distinct k.below here_scoped (Some u) r in
        let s = rw (next, e) at k.same in
        let w = rw next at k.narrow in
        record {
          distinct = rw pushed' (next-distinct levels scope k.distinct k.below);
          below = rw pushed' (next-below levels scope k.below);
          scoped = both.1;
          narrow = omega (arith, w);
          same = rw (pushed, pushed') (sym (with-first kept u (kept_found (levels ++ scope ∷ []) (scope + 1) (drop (i + 1) hyps))) ∙ s);
        }
