-- The size and the depth after weakening and after substitution.
use Rattle.std.proofs.Common.{◌≡◌, ℕ, ◌+◌, ◌≤◌, List, [], ◌∷◌, length, map, get_or, suc, zero, max, sum, refl, inl, inr, arith}
use Rattle.std.proofs.lemmas.Bool.{cases_lt}
use Rattle.std.proofs.lemmas.Grind.{common_steps}
use Rattle.std.proofs.lemmas.List.{length-map, get_or-map, get_or_past}
use Rattle.mp_logic.specs.declared.sym.Sym.{Sym}
use Rattle.mp_term.specs.declared.term.Param.{Param}
use Rattle.mp_term.specs.declared.term.Term.{Term, Var, Op}
use Rattle.mp_term.specs.declared.term.Bound.{Bound}
use Rattle.mp_term.specs.Induction.{OfEachBody, each_term}
use Rattle.mp_term.specs.Terms.{size_of, depth_of}
use Rattle.mp_logic.specs.Lists.{greatest}
use Rattle.mp_term.proofs.Layers.{size_bound, size-Var, size-Op, size_bound-is, depth_bound, depth-Var, depth-Op, depth_bound-is, weak-Var, weak-Op, weak_bound-is, sub-Var, sub-Op, sub_bound-is, sub_size-Var, sub_size-Op, sub_size_bound-is, sub_depth-Var, sub_depth-Op, sub_depth_bound-is}
use Rattle.mp_term.specs.Subst.{weak, weak_bound, under, sub_of, sub_bound_of, sub_each}
use Rattle.mp_term.specs.Sizes.{sub_size, sub_size_bound, sub_depth, sub_depth_bound}
use Rattle.mp_term.proofs.SubLaws.{under-under, under-low, under-high, under-none, length-under}

-- weakening keeps the size and the depth
module _ (m k : ℕ) where
  abbrev IsKept : Term → Type 0
  IsKept t = size_of (weak m k t) ≡ size_of t

  kept_bounds : (bs : List Bound) → OfEachBody IsKept bs → sum (map size_bound (map (weak_bound m k) bs)) ≡ sum (map size_bound bs)
  kept_bounds [] h = refl
  kept_bounds (b ∷ bs) h =
      let first : size_bound (weak_bound m k b) ≡ size_bound b = rw (weak_bound-is, size_bound-is, size_bound-is) h.0 in
      let rest = kept_bounds bs h.1 in grind (arith, common_steps, first, rest)

  kept_var : (i : ℕ) → IsKept (Var i)
  kept_var i = rw (weak-Var, size-Var, size-Var) refl

  kept_op : (o : Sym) (ps : List Param) (bs : List Bound) → OfEachBody IsKept bs → IsKept (Op o ps bs)
  kept_op o ps bs h = rw (weak-Op, size-Op, size-Op, kept_bounds bs h) refl

  pub size-weak : (t : Term) → size_of (weak m k t) ≡ size_of t
  size-weak = each_term IsKept kept_var kept_op

  abbrev IsAsDeep : Term → Type 0
  IsAsDeep t = depth_of (weak m k t) ≡ depth_of t

  as_deep_bounds : (bs : List Bound) → OfEachBody IsAsDeep bs → greatest (map depth_bound (map (weak_bound m k) bs)) ≡ greatest (map depth_bound bs)
  as_deep_bounds [] h = refl
  as_deep_bounds (b ∷ bs) h =
      let first : depth_bound (weak_bound m k b) ≡ depth_bound b = rw (weak_bound-is, depth_bound-is, depth_bound-is) h.0 in
      let rest = as_deep_bounds bs h.1 in rw (first, rest) refl

  as_deep_var : (i : ℕ) → IsAsDeep (Var i)
  as_deep_var i = rw (weak-Var, depth-Var, depth-Var) refl

  as_deep_op : (o : Sym) (ps : List Param) (bs : List Bound) → OfEachBody IsAsDeep bs → IsAsDeep (Op o ps bs)
  as_deep_op o ps bs h = rw (weak-Op, depth-Op, depth-Op, as_deep_bounds bs h) refl

  pub depth-weak : (t : Term) → depth_of (weak m k t) ≡ depth_of t
  depth-weak = each_term IsAsDeep as_deep_var as_deep_op

-- the size after a substitution
module _ (s : List Term) (m : ℕ) where
  abbrev IsSized : Term → Type 0
  IsSized t = (k : ℕ) → size_of (sub_of t (under s m k) (m + k)) ≡ sub_size (map size_of s) t

  sized_var : (i : ℕ) → IsSized (Var i)
  sized_var i k = rw (sub-Var, sub_size-Var) (elim (cases_lt i (length s)) [
    | inl low ↦
        let first = under-low s m k i (Var i) (Var 0) low in
        let second = get_or-map size_of s i (Var 0) 1 low in
        rw (first, size-weak, second) refl
    | inr high ↦
        let past : get_or (map size_of s) i 1 ≡ 1 = get_or_past (map size_of s) i 1 (rw length-map high) in
        rw past (elim (cases_lt i (length s + k)) [
          | inl inside ↦ rw (under-high s m k i (Var i) high inside) (size-Var _)
          | inr outside ↦ rw (get_or_past (under s m k) i (Var i) (rw length-under outside)) (size-Var _)
        ])
  ])

  sized_bounds : (bs : List Bound) (k : ℕ) → OfEachBody IsSized bs →
      sum (map size_bound (sub_each (map sub_bound_of bs) (under s m k) (m + k))) ≡ sum (map (sub_size_bound (map size_of s)) bs)
  sized_bounds [] k h = refl
  sized_bounds (b ∷ bs) k h =
      let e : m + k + b.binders ≡ m + (k + b.binders) = omega arith in
      let here = h.0 (k + b.binders) in
      let first : size_bound (sub_bound_of b (under s m k) (m + k)) ≡ sub_size_bound (map size_of s) b =
      rw (sub_bound-is, size_bound-is, under-under, e, sub_size_bound-is) here in
      let rest = sized_bounds bs k h.1 in grind (arith, common_steps, first, rest)

  sized_op : (o : Sym) (ps : List Param) (bs : List Bound) → OfEachBody IsSized bs → IsSized (Op o ps bs)
  sized_op o ps bs h k = rw (sub-Op _ o ps bs (under s m k) (m + k) refl, size-Op, sub_size-Op, sized_bounds bs k h) refl

  pub size-sub_under : (t : Term) (k : ℕ) → size_of (sub_of t (under s m k) (m + k)) ≡ sub_size (map size_of s) t
  size-sub_under = each_term IsSized sized_var sized_op

  pub size-sub : (t : Term) → size_of (sub_of t s m) ≡ sub_size (map size_of s) t
  size-sub t =
      let e : m + 0 ≡ m = omega arith in
      rw (under-none, e) at (size-sub_under t 0)

  abbrev IsDeep : Term → Type 0
  IsDeep t = (k : ℕ) → depth_of (sub_of t (under s m k) (m + k)) ≡ sub_depth (map depth_of s) t

  deep_var : (i : ℕ) → IsDeep (Var i)
  deep_var i k = rw (sub-Var, sub_depth-Var) (elim (cases_lt i (length s)) [
    | inl low ↦
        let first = under-low s m k i (Var i) (Var 0) low in
        let second = get_or-map depth_of s i (Var 0) 1 low in
        rw (first, depth-weak, second) refl
    | inr high ↦
        let past : get_or (map depth_of s) i 1 ≡ 1 = get_or_past (map depth_of s) i 1 (rw length-map high) in
        rw past (elim (cases_lt i (length s + k)) [
          | inl inside ↦ rw (under-high s m k i (Var i) high inside) (depth-Var _)
          | inr outside ↦ rw (get_or_past (under s m k) i (Var i) (rw length-under outside)) (depth-Var _)
        ])
  ])

  deep_bounds : (bs : List Bound) (k : ℕ) → OfEachBody IsDeep bs →
      greatest (map depth_bound (sub_each (map sub_bound_of bs) (under s m k) (m + k))) ≡ greatest (map (sub_depth_bound (map depth_of s)) bs)
  deep_bounds [] k h = refl
  deep_bounds (b ∷ bs) k h =
      let e : m + k + b.binders ≡ m + (k + b.binders) = omega arith in
      let here = h.0 (k + b.binders) in
      let first : depth_bound (sub_bound_of b (under s m k) (m + k)) ≡ sub_depth_bound (map depth_of s) b =
      rw (sub_bound-is, depth_bound-is, under-under, e, sub_depth_bound-is) here in
      let rest = deep_bounds bs k h.1 in rw (first, rest) refl

  deep_op : (o : Sym) (ps : List Param) (bs : List Bound) → OfEachBody IsDeep bs → IsDeep (Op o ps bs)
  deep_op o ps bs h k = rw (sub-Op _ o ps bs (under s m k) (m + k) refl, depth-Op, sub_depth-Op, deep_bounds bs k h) refl

  pub depth-sub_under : (t : Term) (k : ℕ) → depth_of (sub_of t (under s m k) (m + k)) ≡ sub_depth (map depth_of s) t
  depth-sub_under = each_term IsDeep deep_var deep_op

  pub depth-sub : (t : Term) → depth_of (sub_of t s m) ≡ sub_depth (map depth_of s) t
  depth-sub t =
      let e : m + 0 ≡ m = omega arith in
      rw (under-none, e) at (depth-sub_under t 0)

-- where no item is deeper than d, at least 1, a term gets at most d - 1 deeper
module _ (depths : List ℕ) (d : ℕ) (some : 1 ≤ d) (most : (i : ℕ) → get_or depths i 1 ≤ d) where
  abbrev IsBounded : Term → Type 0
  IsBounded t = sub_depth depths t + 1 ≤ depth_of t + d

  bounded_var : (i : ℕ) → IsBounded (Var i)
  bounded_var i = let h = most i in rw (sub_depth-Var, depth-Var) (omega arith)

  bounded_bounds : (bs : List Bound) → OfEachBody IsBounded bs → greatest (map (sub_depth_bound depths) bs) + 1 ≤ greatest (map depth_bound bs) + d
  bounded_bounds [] h = omega arith
  bounded_bounds (b ∷ bs) h =
      let first : sub_depth_bound depths b + 1 ≤ depth_bound b + d = rw (sub_depth_bound-is, depth_bound-is) h.0 in
      let rest = bounded_bounds bs h.1 in omega (arith, first, rest)

  bounded_op : (o : Sym) (ps : List Param) (bs : List Bound) → OfEachBody IsBounded bs → IsBounded (Op o ps bs)
  bounded_op o ps bs h = let r = bounded_bounds bs h in rw (sub_depth-Op, depth-Op) (omega (arith, r))

  pub sub_depth-most : (t : Term) → sub_depth depths t + 1 ≤ depth_of t + d
  sub_depth-most = each_term IsBounded bounded_var bounded_op

-- each item counts as 1 at least, so no term gets smaller
module _ (sizes : List ℕ) (some : (i : ℕ) → 1 ≤ get_or sizes i 1) where
  abbrev IsGrown : Term → Type 0
  IsGrown t = size_of t ≤ sub_size sizes t

  grown_var : (i : ℕ) → IsGrown (Var i)
  grown_var i = let h = some i in rw (sub_size-Var sizes i, size-Var) h

  grown_bounds : (bs : List Bound) → OfEachBody IsGrown bs → sum (map size_bound bs) ≤ sum (map (sub_size_bound sizes) bs)
  grown_bounds [] h = omega arith
  grown_bounds (b ∷ bs) h =
      let first : size_bound b ≤ sub_size_bound sizes b = rw (sub_size_bound-is sizes b, size_bound-is) h.0 in
      let rest = grown_bounds bs h.1 in
      let left : sum (map size_bound (b ∷ bs)) ≡ size_bound b + sum (map size_bound bs) = grind (arith, common_steps) in
      let right : sum (map (sub_size_bound sizes) (b ∷ bs)) ≡ sub_size_bound sizes b + sum (map (sub_size_bound sizes) bs) = grind (arith, common_steps) in
      rw (left, right) (omega (arith, first, rest))

  grown_op : (o : Sym) (ps : List Param) (bs : List Bound) → OfEachBody IsGrown bs → IsGrown (Op o ps bs)
  grown_op o ps bs h = let r = grown_bounds bs h in rw (sub_size-Op sizes o ps bs, size-Op) (omega (arith, r))

  pub sub_size-least : (t : Term) → size_of t ≤ sub_size sizes t
  sub_size-least = each_term IsGrown grown_var grown_op

size-some : (t : Term) → 1 ≤ size_of t
size-some = each_term (λ t. 1 ≤ size_of t) (λ i. rw size-Var (omega arith)) (λ o ps bs h. rw size-Op (omega arith))

sizes-some : (s : List Term) (i : ℕ) → 1 ≤ get_or (map size_of s) i 1
sizes-some [] i = omega arith
sizes-some (t ∷ s) zero = size-some t
sizes-some (t ∷ s) (suc i) = sizes-some s i

depths-most : (s : List Term) (i : ℕ) → get_or (map depth_of s) i 1 ≤ max 1 (greatest (map depth_of s))
depths-most [] i = omega arith
depths-most (t ∷ s) zero = omega arith
depths-most (t ∷ s) (suc i) = omega (arith, depths-most s i)

-- the laws at the outermost place
pub size_substituted : (s : List Term) (m : ℕ) (t : Term) → (size_of (sub_of t s m) ≡ sub_size (map size_of s) t) × (size_of t ≤ size_of (sub_of t s m))
size_substituted s m t =
    let e = size-sub s m t in
    (e, rw e (sub_size-least (map size_of s) (sizes-some s) t))

pub depth_substituted : (s : List Term) (m : ℕ) (t : Term) →
    (depth_of (sub_of t s m) ≡ sub_depth (map depth_of s) t) × (depth_of (sub_of t s m) + 1 ≤ depth_of t + max 1 (greatest (map depth_of s)))
depth_substituted s m t =
    let e = depth-sub s m t in
    (e, rw e (sub_depth-most (map depth_of s) (max 1 (greatest (map depth_of s))) (omega arith) (depths-most s) t))
