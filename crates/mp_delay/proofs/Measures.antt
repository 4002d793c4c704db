-- Moving keeps size and depth, and follows scopes.
use Rattle.std.proofs.Common.{◌≡◌, ℕ, ◌+◌, ◌<◌, List, [], ◌∷◌, map, sum, refl, IsTrue, arith}
use Rattle.std.proofs.lemmas.Bool.Decides.{nat_tests}
use Rattle.std.proofs.lemmas.Grind.{common_steps}
use Rattle.mp_logic.specs.declared.sym.Sym.{Sym}
use Rattle.mp_term.specs.declared.term.Param.{Param}
use Rattle.mp_term.specs.declared.term.Term.{Term, Var, Op}
use Rattle.mp_term.specs.declared.term.Bound.{Bound}
use Rattle.mp_term.specs.Induction.{OfEachBody, each_term}
use Rattle.mp_term.specs.Terms.{size_of, depth_of, in_scope_of, all_at_scope}
use Rattle.mp_logic.specs.Lists.{greatest}
use Rattle.mp_term.proofs.Layers.{size_bound, size-Var, size-Op, size_bound-is, depth_bound, depth-Var, depth-Op, depth_bound-is, scoped_bound, in_scope-Var, in_scope-Op, scoped_bound-is}
use Rattle.mp_delay.specs.Moves.{relevel_by, relevel_bound}
use Rattle.mp_delay.proofs.Layers.{relevel-Var, relevel-Op, relevel_bound-is}

module _ (f : ℕ → ℕ) where
  abbrev IsAsLarge : Term → Type 0
  IsAsLarge t = (size_of (relevel_by f t) ≡ size_of t) × (depth_of (relevel_by f t) ≡ depth_of t)

  large_bounds : (bs : List Bound) → OfEachBody IsAsLarge bs →
      (sum (map size_bound (map (relevel_bound f) bs)) ≡ sum (map size_bound bs)) × (greatest (map depth_bound (map (relevel_bound f) bs)) ≡ greatest (map depth_bound bs))
  large_bounds [] h = (refl, refl)
  large_bounds (b ∷ bs) h =
      let ih = large_bounds bs h.1 in
      let first : size_bound (relevel_bound f b) ≡ size_bound b = rw (relevel_bound-is, size_bound-is, size_bound-is) h.0.0 in
      let second : depth_bound (relevel_bound f b) ≡ depth_bound b = rw (relevel_bound-is, depth_bound-is, depth_bound-is) h.0.1 in
      let sizes = ih.0 in
      (grind (arith, common_steps, first, sizes), rw (second, ih.1) refl)

  large_var : (level : ℕ) → IsAsLarge (Var level)
  large_var level = (simp (relevel-Var, size-Var) refl, simp (relevel-Var, depth-Var) refl)

  large_op : (o : Sym) (ps : List Param) (subs : List Bound) → OfEachBody IsAsLarge subs → IsAsLarge (Op o ps subs)
  large_op o ps subs h =
      let ih = large_bounds subs h in
      (rw (relevel-Op, size-Op, size-Op, ih.0) refl, rw (relevel-Op, depth-Op, depth-Op, ih.1) refl)

  pub relevel-measures : (t : Term) → (size_of (relevel_by f t) ≡ size_of t) × (depth_of (relevel_by f t) ≡ depth_of t)
  relevel-measures = each_term IsAsLarge large_var large_op

module _ (f : ℕ → ℕ) (n m : ℕ) (within : (i k : ℕ) → i < n + k → f i < m + k) where
  abbrev IsWithin : Term → Type 0
  IsWithin t = (k : ℕ) → IsTrue (in_scope_of t (n + k)) → IsTrue (in_scope_of (relevel_by f t) (m + k))

  within_bounds : (bs : List Bound) (k : ℕ) → OfEachBody IsWithin bs → IsTrue (all_at_scope (n + k) (map scoped_bound bs)) →
      IsTrue (all_at_scope (m + k) (map scoped_bound (map (relevel_bound f) bs)))
  within_bounds [] k h scoped = scoped
  within_bounds (b ∷ bs) k h scoped =
      let first_scoped : IsTrue (scoped_bound b (n + k)) = grind (arith, common_steps) in
      let rest_scoped : IsTrue (all_at_scope (n + k) (map scoped_bound bs)) = grind (arith, common_steps) in
      let e : n + (k + b.binders) ≡ n + k + b.binders = omega arith in
      let e' : m + k + b.binders ≡ m + (k + b.binders) = omega arith in
      let here : IsTrue (in_scope_of b.body (n + (k + b.binders))) = rw e (rw scoped_bound-is at first_scoped) in
      let made = h.0 (k + b.binders) here in
      let first : IsTrue (scoped_bound (relevel_bound f b) (m + k)) = rw (relevel_bound-is, scoped_bound-is, e') made in
      let rest = within_bounds bs k h.1 rest_scoped in
      grind (arith, common_steps, first, rest)

  within_var : (level : ℕ) → IsWithin (Var level)
  within_var level k scoped =
      let test = rw in_scope-Var at scoped in
      let inside : level < n + k = grind (arith, nat_tests) in
      let after = within level k inside in
      rw (relevel-Var, in_scope-Var) (grind (arith, nat_tests))

  within_op : (o : Sym) (ps : List Param) (subs : List Bound) → OfEachBody IsWithin subs → IsWithin (Op o ps subs)
  within_op o ps subs h k scoped =
      let test = rw in_scope-Op at scoped in
      rw (relevel-Op, in_scope-Op) (within_bounds subs k h test)

  pub relevel-within : (t : Term) (k : ℕ) → IsTrue (in_scope_of t (n + k)) → IsTrue (in_scope_of (relevel_by f t) (m + k))
  relevel-within = each_term IsWithin within_var within_op
