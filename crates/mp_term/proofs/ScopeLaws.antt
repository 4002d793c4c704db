-- Weakening and substitution keep terms in scope, and the widest scope grows by a known amount.
use Rattle.std.proofs.Common.{◌≡◌, ℕ, ◌+◌, ◌<◌, ◌≤◌, List, [], ◌∷◌, length, map, get_or, IsTrue, refl, inl, inr, arith}
use Rattle.std.proofs.lemmas.Bool.{cases_lt}
use Rattle.std.proofs.lemmas.Bool.Decides.{nat_tests}
use Rattle.std.proofs.lemmas.Grind.{common_steps}
use Rattle.mp_logic.specs.declared.sym.Sym.{Sym}
use Rattle.mp_term.specs.declared.term.Param.{Param}
use Rattle.mp_term.specs.declared.term.Term.{Term, Var, Op}
use Rattle.mp_term.specs.declared.term.Bound.{Bound}
use Rattle.mp_term.specs.Induction.{OfEachBody, each_term}
use Rattle.mp_term.specs.Terms.{in_scope_of, all_at_scope}
use Rattle.mp_term.proofs.Layers.{scoped_bound, in_scope-Var, in_scope-Op, scoped_bound-is, weak-Var, weak-Op, weak_bound-is, sub-Var, sub-Op, sub_bound-is, widest-Var, widest-Op, width_bound-is}
use Rattle.mp_term.specs.Subst.{weak, weak_bound, under, sub_of, sub_bound_of, sub_each, AreInScope, widest_of, widest_at, width_bound, widest_in}
use Rattle.mp_term.proofs.SubLaws.{under-under, under-low, under-high, under-none, AreInScope-at, widest_in-at, widest_in-ge}

module _ (m k : ℕ) where
  abbrev StaysIn : Term → Type 0
  StaysIn t = (j : ℕ) → IsTrue (in_scope_of t (m + j)) → IsTrue (in_scope_of (weak m k t) (m + k + j))

  stays_var : (i : ℕ) → StaysIn (Var i)
  stays_var i j h = let h' = rw in_scope-Var at h in rw (weak-Var, in_scope-Var) (grind (arith, nat_tests, h'))

  stays_bounds : (bs : List Bound) (j : ℕ) → OfEachBody StaysIn bs → IsTrue (all_at_scope (m + j) (map scoped_bound bs)) → IsTrue (all_at_scope (m + k + j) (map scoped_bound (map (weak_bound m k) bs)))
  stays_bounds [] j h scoped = refl
  stays_bounds (b ∷ bs) j h scoped =
      let first_scoped : IsTrue (scoped_bound b (m + j)) = grind (arith, common_steps) in
      let rest_scoped : IsTrue (all_at_scope (m + j) (map scoped_bound bs)) = grind (arith, common_steps) in
      let e : m + j + b.binders ≡ m + (j + b.binders) = omega arith in
      let e' : m + k + j + b.binders ≡ m + k + (j + b.binders) = omega arith in
      let here = rw (scoped_bound-is, e) at first_scoped in
      let first : IsTrue (scoped_bound (weak_bound m k b) (m + k + j)) = rw (weak_bound-is, scoped_bound-is, e') (h.0 (j + b.binders) here) in
      let rest = stays_bounds bs j h.1 rest_scoped in grind (arith, common_steps, first, rest)

  stays_op : (o : Sym) (ps : List Param) (bs : List Bound) → OfEachBody StaysIn bs → StaysIn (Op o ps bs)
  stays_op o ps bs h j scoped = let s = rw in_scope-Op at scoped in rw (weak-Op, in_scope-Op) (stays_bounds bs j h s)

  pub in_scope-weak : (t : Term) (j : ℕ) → IsTrue (in_scope_of t (m + j)) → IsTrue (in_scope_of (weak m k t) (m + k + j))
  in_scope-weak = each_term StaysIn stays_var stays_op

  abbrev Widens : Term → Type 0
  Widens t = (j : ℕ) → widest_of (weak m k t) (m + k + j) ≡ widest_of t (m + j) + k

  widens_var : (i : ℕ) → Widens (Var i)
  widens_var i j = rw (weak-Var, widest-Var, widest-Var) (omega arith)

  widens_bounds : (bs : List Bound) (j : ℕ) → OfEachBody Widens bs → widest_at (m + k + j) (map width_bound (map (weak_bound m k) bs)) ≡ widest_at (m + j) (map width_bound bs) + k
  widens_bounds [] j h = omega arith
  widens_bounds (b ∷ bs) j h =
      let e : m + j + b.binders ≡ m + (j + b.binders) = omega arith in
      let e' : m + k + j + b.binders ≡ m + k + (j + b.binders) = omega arith in
      let here = h.0 (j + b.binders) in
      let first : width_bound (weak_bound m k b) (m + k + j) ≡ width_bound b (m + j) + k =
      rw (weak_bound-is, width_bound-is, width_bound-is, e, e', here) (omega arith) in
      let rest = widens_bounds bs j h.1 in omega (arith, first, rest)

  widens_op : (o : Sym) (ps : List Param) (bs : List Bound) → OfEachBody Widens bs → Widens (Op o ps bs)
  widens_op o ps bs h j = rw (weak-Op, widest-Op, widest-Op) (widens_bounds bs j h)

  pub widest-weak : (t : Term) (j : ℕ) → widest_of (weak m k t) (m + k + j) ≡ widest_of t (m + j) + k
  widest-weak = each_term Widens widens_var widens_op

module _ (s : List Term) (m : ℕ) (all : AreInScope m s) where
  abbrev Lands : Term → Type 0
  Lands t = (k : ℕ) → IsTrue (in_scope_of t (length s + k)) → IsTrue (in_scope_of (sub_of t (under s m k) (m + k)) (m + k))

  lands_var : (i : ℕ) → Lands (Var i)
  lands_var i k h =
      let test = rw in_scope-Var at h in
      let inside : i < length s + k = grind (arith, nat_tests, test) in
      rw sub-Var (elim (cases_lt i (length s)) [
        | inl low ↦
            let first = under-low s m k i (Var i) (Var 0) low in
            let z : m + 0 ≡ m = omega arith in
            let z' : m + k + 0 ≡ m + k = omega arith in
            rw first (rw z' at (in_scope-weak m k (get_or s i (Var 0)) 0 (rw z (AreInScope-at m s i (Var 0) low all))))
        | inr high ↦ rw (under-high s m k i (Var i) high inside, in_scope-Var) (grind (arith, nat_tests))
      ])

  lands_bounds : (bs : List Bound) (k : ℕ) → OfEachBody Lands bs → IsTrue (all_at_scope (length s + k) (map scoped_bound bs)) →
      IsTrue (all_at_scope (m + k) (map scoped_bound (sub_each (map sub_bound_of bs) (under s m k) (m + k))))
  lands_bounds [] k h scoped = refl
  lands_bounds (b ∷ bs) k h scoped =
      let first_scoped : IsTrue (scoped_bound b (length s + k)) = grind (arith, common_steps) in
      let rest_scoped : IsTrue (all_at_scope (length s + k) (map scoped_bound bs)) = grind (arith, common_steps) in
      let e : length s + k + b.binders ≡ length s + (k + b.binders) = omega arith in
      let e' : m + k + b.binders ≡ m + (k + b.binders) = omega arith in
      let here = rw (scoped_bound-is, e) at first_scoped in
      let first : IsTrue (scoped_bound (sub_bound_of b (under s m k) (m + k)) (m + k)) = rw (sub_bound-is, scoped_bound-is, under-under, e') (h.0 (k + b.binders) here) in
      let rest = lands_bounds bs k h.1 rest_scoped in grind (arith, common_steps, first, rest)

  lands_op : (o : Sym) (ps : List Param) (bs : List Bound) → OfEachBody Lands bs → Lands (Op o ps bs)
  lands_op o ps bs h k scoped = let c = rw in_scope-Op at scoped in rw (sub-Op _ o ps bs (under s m k) (m + k) refl, in_scope-Op) (lands_bounds bs k h c)

  pub in_scope-sub : (t : Term) (k : ℕ) → IsTrue (in_scope_of t (length s + k)) → IsTrue (in_scope_of (sub_of t (under s m k) (m + k)) (m + k))
  in_scope-sub = each_term Lands lands_var lands_op

module _ (s : List Term) (m : ℕ) where
  abbrev Spreads : Term → Type 0
  Spreads t = (k : ℕ) → IsTrue (in_scope_of t (length s + k)) → widest_of (sub_of t (under s m k) (m + k)) (m + k) + length s ≤ widest_of t (length s + k) + widest_in m s

  spreads_var : (i : ℕ) → Spreads (Var i)
  spreads_var i k h =
      let test = rw in_scope-Var at h in
      let inside : i < length s + k = grind (arith, nat_tests, test) in
      let ge = widest_in-ge m s in
      rw (sub-Var, widest-Var i (length s + k)) (elim (cases_lt i (length s)) [
        | inl low ↦
            let first = under-low s m k i (Var i) (Var 0) low in
            let z : m + 0 ≡ m = omega arith in
            let z' : m + k + 0 ≡ m + k = omega arith in
            let w = rw (z, z') at (widest-weak m k (get_or s i (Var 0)) 0) in
            let at = widest_in-at m s i (Var 0) low in
            rw (first, w) (omega (arith, at))
        | inr high ↦ rw (under-high s m k i (Var i) high inside, widest-Var) (omega (arith, ge))
      ])

  spreads_bounds : (bs : List Bound) (k : ℕ) → OfEachBody Spreads bs → IsTrue (all_at_scope (length s + k) (map scoped_bound bs)) →
      widest_at (m + k) (map width_bound (sub_each (map sub_bound_of bs) (under s m k) (m + k))) + length s ≤ widest_at (length s + k) (map width_bound bs) + widest_in m s
  spreads_bounds [] k h scoped = omega (arith, widest_in-ge m s)
  spreads_bounds (b ∷ bs) k h scoped =
      let first_scoped : IsTrue (scoped_bound b (length s + k)) = grind (arith, common_steps) in
      let rest_scoped : IsTrue (all_at_scope (length s + k) (map scoped_bound bs)) = grind (arith, common_steps) in
      let e : length s + k + b.binders ≡ length s + (k + b.binders) = omega arith in
      let e' : m + k + b.binders ≡ m + (k + b.binders) = omega arith in
      let here = rw (scoped_bound-is, e) at first_scoped in
      let body = h.0 (k + b.binders) here in
      let ge = widest_in-ge m s in
      let first : width_bound (sub_bound_of b (under s m k) (m + k)) (m + k) + length s ≤ width_bound b (length s + k) + widest_in m s =
      rw (sub_bound-is, width_bound-is, width_bound-is, under-under, e, e') (omega (arith, body, ge)) in
      let rest = spreads_bounds bs k h.1 rest_scoped in omega (arith, first, rest)

  spreads_op : (o : Sym) (ps : List Param) (bs : List Bound) → OfEachBody Spreads bs → Spreads (Op o ps bs)
  spreads_op o ps bs h k scoped = let c = rw in_scope-Op at scoped in rw (sub-Op _ o ps bs (under s m k) (m + k) refl, widest-Op, widest-Op) (spreads_bounds bs k h c)

  pub widest-sub : (t : Term) (k : ℕ) → IsTrue (in_scope_of t (length s + k)) → widest_of (sub_of t (under s m k) (m + k)) (m + k) + length s ≤ widest_of t (length s + k) + widest_in m s
  widest-sub = each_term Spreads spreads_var spreads_op

-- the laws at the outermost place
pub scope_weakened : (n k : ℕ) (t : Term) → IsTrue (in_scope_of t n) → IsTrue (in_scope_of (weak n k t) (n + k))
scope_weakened n k t scoped =
    let z : n + 0 ≡ n = omega arith in
    let z' : n + k + 0 ≡ n + k = omega arith in
    rw z' at (in_scope-weak n k t 0 (rw z scoped))

pub scope_substituted : (s : List Term) (m : ℕ) (t : Term) → AreInScope m s → IsTrue (in_scope_of t (length s)) → IsTrue (in_scope_of (sub_of t s m) m)
scope_substituted s m t all scoped =
    let z : length s + 0 ≡ length s = omega arith in
    let z' : m + 0 ≡ m = omega arith in
    rw (under-none, z') at (in_scope-sub s m all t 0 (rw z scoped))

pub width_weakened : (n k : ℕ) (t : Term) → widest_of (weak n k t) (n + k) ≡ widest_of t n + k
width_weakened n k t =
    let z : n + 0 ≡ n = omega arith in
    let z' : n + k + 0 ≡ n + k = omega arith in
    rw (z', z) at (widest-weak n k t 0)

pub width_substituted : (s : List Term) (m : ℕ) (t : Term) → IsTrue (in_scope_of t (length s)) →
    widest_of (sub_of t s m) m + length s ≤ widest_of t (length s) + widest_in m s
width_substituted s m t scoped =
    let z : length s + 0 ≡ length s = omega arith in
    let z' : m + 0 ≡ m = omega arith in
    rw (under-none, z', z) at (widest-sub s m t 0 (rw z scoped))
