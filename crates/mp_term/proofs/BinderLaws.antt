-- Weakening and substitution add no binders to a subterm.
use Rattle.std.proofs.Common.{◌≡◌, ℕ, ◌+◌, ◌*◌, ◌≤◌, List, [], ◌∷◌, length, map, IsTrue, refl, inl, inr, arith}
use Rattle.std.specs.Prelude.{nat_le, All}
use Rattle.std.proofs.lemmas.Bool.{cases_lt}
use Rattle.std.proofs.lemmas.Bool.Decides.{nat_tests}
use Rattle.std.proofs.lemmas.Grind.{common_steps}
use Rattle.std.proofs.lemmas.List.{get_or_past}
use Rattle.mp_logic.specs.declared.sym.Sym.{Sym}
use Rattle.mp_term.specs.declared.term.Param.{Param}
use Rattle.mp_term.specs.declared.term.Term.{Term, Var, Op}
use Rattle.mp_term.specs.declared.term.Bound.{Bound}
use Rattle.mp_term.specs.Induction.{OfEachBody, each_term}
use Rattle.mp_term.specs.Terms.{all_true, depth_of}
use Rattle.mp_logic.specs.Lists.{greatest}
use Rattle.mp_term.specs.Limits.{few_binders_of}
use Rattle.mp_term.proofs.Layers.{few_bound, few-Var, few-Op, few_bound-is, depth_bound, depth-Var, depth-Op, depth_bound-is, weak-Var, weak-Op, weak_bound-is, sub-Var, sub-Op, sub_bound-is, widest-Var, widest-Op, width_bound-is}
use Rattle.mp_term.specs.Subst.{weak, weak_bound, under, sub_of, sub_bound_of, sub_each, widest_of, widest_at, width_bound}
use Rattle.mp_term.proofs.SubLaws.{under-under, under-low, under-high, under-none, length-under}

module _ (m k : ℕ) where
  abbrev IsAsBound : Term → Type 0
  IsAsBound t = few_binders_of (weak m k t) ≡ few_binders_of t

  as_bound_bounds : (bs : List Bound) → OfEachBody IsAsBound bs → all_true (map few_bound (map (weak_bound m k) bs)) ≡ all_true (map few_bound bs)
  as_bound_bounds [] h = refl
  as_bound_bounds (b ∷ bs) h =
      let first : few_bound (weak_bound m k b) ≡ few_bound b = rw (weak_bound-is, few_bound-is, few_bound-is, h.0) refl in
      let rest = as_bound_bounds bs h.1 in rw (first, rest) refl

  as_bound_var : (i : ℕ) → IsAsBound (Var i)
  as_bound_var i = rw (weak-Var, few-Var, few-Var) refl

  as_bound_op : (o : Sym) (ps : List Param) (bs : List Bound) → OfEachBody IsAsBound bs → IsAsBound (Op o ps bs)
  as_bound_op o ps bs h = rw (weak-Op, few-Op, few-Op, as_bound_bounds bs h) refl

  pub few-weak : (t : Term) → few_binders_of (weak m k t) ≡ few_binders_of t
  few-weak = each_term IsAsBound as_bound_var as_bound_op

module _ (s : List Term) (m : ℕ) (all : All (λ t. IsTrue (few_binders_of t)) s) where
  abbrev StaysFew : Term → Type 0
  StaysFew t = (k : ℕ) → IsTrue (few_binders_of t) → IsTrue (few_binders_of (sub_of t (under s m k) (m + k)))

  stays_few_var : (i : ℕ) → StaysFew (Var i)
  stays_few_var i k h = rw sub-Var (elim (cases_lt i (length s)) [
    | inl low ↦ rw (under-low s m k i (Var i) (Var 0) low, few-weak) (all i (Var 0) low)
    | inr high ↦ elim (cases_lt i (length s + k)) [
      | inl inside ↦ rw (under-high s m k i (Var i) high inside) (few-Var _)
      | inr outside ↦ rw (get_or_past (under s m k) i (Var i) (rw length-under outside)) (few-Var _)
    ]
  ])

  stays_few_bounds : (bs : List Bound) (k : ℕ) → OfEachBody StaysFew bs → IsTrue (all_true (map few_bound bs)) →
      IsTrue (all_true (map few_bound (sub_each (map sub_bound_of bs) (under s m k) (m + k))))
  stays_few_bounds [] k h few = refl
  stays_few_bounds (b ∷ bs) k h few =
      let e : m + k + b.binders ≡ m + (k + b.binders) = omega arith in
      let first_few : IsTrue (few_bound b) = grind (arith, common_steps) in
      let rest_few : IsTrue (all_true (map few_bound bs)) = grind (arith, common_steps) in
      let apart = rw few_bound-is at first_few in
      let binders : IsTrue (nat_le b.binders 8) = grind (arith, common_steps, apart) in
      let body : IsTrue (few_binders_of b.body) = grind (arith, common_steps, apart) in
      let here = h.0 (k + b.binders) body in
      let first : IsTrue (few_bound (sub_bound_of b (under s m k) (m + k))) =
      rw (sub_bound-is, few_bound-is, under-under, e, here, binders) refl in
      let rest = stays_few_bounds bs k h.1 rest_few in grind (arith, common_steps, first, rest)

  stays_few_op : (o : Sym) (ps : List Param) (bs : List Bound) → OfEachBody StaysFew bs → StaysFew (Op o ps bs)
  stays_few_op o ps bs h k few =
      let test = rw few-Op at few in
      rw (sub-Op (Op o ps bs) o ps bs (under s m k) (m + k) refl, few-Op) (stays_few_bounds bs k h test)

  pub few-sub_under : (t : Term) (k : ℕ) → IsTrue (few_binders_of t) → IsTrue (few_binders_of (sub_of t (under s m k) (m + k)))
  few-sub_under = each_term StaysFew stays_few_var stays_few_op

  pub few-sub : (t : Term) → IsTrue (few_binders_of t) → IsTrue (few_binders_of (sub_of t s m))
  few-sub t few =
      let e : m + 0 ≡ m = omega arith in
      rw (under-none, e) at (few-sub_under t 0 few)

-- where no subterm has more than 8 binders, each level of depth widens the scope by 8 at most
abbrev IsWithin : Term → Type 0
IsWithin t = (n : ℕ) → IsTrue (few_binders_of t) → widest_of t n ≤ n + 8 * depth_of t

within_var : (i : ℕ) → IsWithin (Var i)
within_var i n few = rw (widest-Var, depth-Var) (omega arith)

within_bounds : (bs : List Bound) (n : ℕ) → OfEachBody IsWithin bs → IsTrue (all_true (map few_bound bs)) →
    widest_at n (map width_bound bs) ≤ n + 8 * (1 + greatest (map depth_bound bs))
within_bounds [] n h few = omega arith
within_bounds (b ∷ bs) n h few =
    let first_few : IsTrue (few_bound b) = grind (arith, common_steps) in
    let rest_few : IsTrue (all_true (map few_bound bs)) = grind (arith, common_steps) in
    let apart = rw few_bound-is at first_few in
    let test : IsTrue (nat_le b.binders 8) = grind (arith, common_steps, apart) in
    let binders : b.binders ≤ 8 = grind (arith, nat_tests, test) in
    let body : IsTrue (few_binders_of b.body) = grind (arith, common_steps, apart) in
    let here = h.0 (n + b.binders) body in
    let rest = within_bounds bs n h.1 rest_few in
    let wide = width_bound-is b n in
    let deep = depth_bound-is b in
    omega (arith, here, rest, wide, deep, binders)

within_op : (o : Sym) (ps : List Param) (bs : List Bound) → OfEachBody IsWithin bs → IsWithin (Op o ps bs)
within_op o ps bs h n few =
    let test = rw few-Op at few in
    rw (widest-Op, depth-Op) (within_bounds bs n h test)

pub width_few : (t : Term) (n : ℕ) → IsTrue (few_binders_of t) → widest_of t n ≤ n + 8 * depth_of t
width_few = each_term IsWithin within_var within_op

pub ruleset width = (width_few)
