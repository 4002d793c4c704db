-- Renaming undoes the substitution of distinct variables.
use Rattle.std.proofs.Common.{◌≡◌, ℕ, ◌+◌, ◌-◌, ◌<◌, ◌≤◌, List, [], ◌∷◌, length, map, get_or, suc, IsTrue, Option, Some, None, nat_eq, refl, sym, inl, inr, ◌⊎◌, eq-eqb, arith}
use Rattle.std.specs.Prelude.{position, All, Bool, true, false, eqb}
use Rattle.std.specs.List.{list_any, IsDistinct}
use Rattle.std.proofs.lemmas.Map.Steps.{length-le_from_distinct_below}
use Rattle.std.specs.Option.{option_map}
use Rattle.std.proofs.lemmas.Bool.Decides.{nat_tests}
use Rattle.std.proofs.lemmas.Grind.{common_steps}
use Rattle.std.proofs.lemmas.Bool.{cases_lt}
use Rattle.std.proofs.lemmas.List.{get_or-map, length-map}
use Rattle.std.proofs.lemmas.List.Sums.{position_or_len_is}
use Rattle.std.proofs.lemmas.List.Quantifiers.{position-Some}
use Rattle.std.proofs.lemmas.Map.Keys.{apart_from_distinct}
use Rattle.mp_logic.specs.declared.sym.Sym.{Sym}
use Rattle.mp_term.specs.declared.term.Param.{Param}
use Rattle.mp_term.specs.declared.term.Term.{Term, Var, Op}
use Rattle.mp_term.specs.declared.term.Bound.{Bound}
use Rattle.mp_term.specs.Induction.{OfEachBody, each_term}
use Rattle.mp_term.specs.Terms.{in_scope_of, all_at_scope}
use Rattle.mp_term.proofs.Layers.{scoped_bound, in_scope-Var, in_scope-Op, scoped_bound-is, weak-Var, sub-Var, sub-Op, sub_bound-is, unrenamed-Var, unrenamed-Op, unrenamed_bound-is, with_first, all_some-cons}
use Rattle.mp_term.specs.Subst.{weak, under, sub_of, sub_bound_of, sub_each, all_some, unrenamed, unrenamed_bound, IsRenaming}
use Rattle.mp_term.proofs.SubLaws.{under-under, under-low, under-high, under-none}

-- the place of an item in a list of distinct numbers
position-at : (levels : List ℕ) (i : ℕ) → IsDistinct nat_eq levels → i < length levels →
    position (λ x. nat_eq x (get_or levels i 0)) levels ≡ Some i
position-at levels i distinct h =
    let first = position_or_len_is (λ x. nat_eq x (get_or levels i 0)) levels i 0 (omega arith)
    (λ k below. apart_from_distinct nat_eq levels k i 0 distinct below h) (λ _. eq-eqb _ _ refl) in
    rw first (grind (arith, nat_tests))

module _ (levels : List ℕ) (n : ℕ) (distinct : IsDistinct nat_eq levels) (below : (i : ℕ) → i < length levels → get_or levels i 0 < n) where
  abbrev terms : ℕ → List Term
  terms k = under (map Var levels) n k

  -- the substitution can be undone
  abbrev IsUndone : Term → Type 0
  IsUndone u = (k : ℕ) → IsTrue (in_scope_of u (length levels + k)) → unrenamed levels n (sub_of u (terms k) (n + k)) ≡ Some u

  undone_low : (i k : ℕ) → i < length levels → unrenamed levels n (get_or (terms k) i (Var i)) ≡ Some (Var i)
  undone_low i k h =
      let low = under-low (map Var levels) n k i (Var i) (Var 0) (grind (arith, common_steps)) in
      let item = get_or-map Var levels i 0 (Var 0) h in
      let is_below = below i h in
      let stays : weak n k (Var (get_or levels i 0)) ≡ Var (get_or levels i 0) = rw weak-Var (grind (arith, nat_tests)) in
      let place = position-at levels i distinct h in
      rw (low, item, stays, unrenamed-Var) (grind (arith, nat_tests, place))

  undone_high : (i k : ℕ) → length levels ≤ i → i < length levels + k → unrenamed levels n (get_or (terms k) i (Var i)) ≡ Some (Var i)
  undone_high i k low high =
      let many = length-map levels Var in
      let item = under-high (map Var levels) n k i (Var i) (omega arith) (omega arith) in
      rw (item, many, unrenamed-Var) (grind (arith, nat_tests))

  undone_var : (i : ℕ) → IsUndone (Var i)
  undone_var i k scoped =
      let test = rw in_scope-Var at scoped in
      let inside : i < length levels + k = grind (arith, nat_tests) in
      rw sub-Var (elim (cases_lt i (length levels)) [ inl low ↦ undone_low i k low | inr high ↦ undone_high i k high inside ])

  undone_bounds : (bs : List Bound) (k : ℕ) → OfEachBody IsUndone bs → IsTrue (all_at_scope (length levels + k) (map scoped_bound bs)) →
      all_some (map (unrenamed_bound levels n) (sub_each (map sub_bound_of bs) (terms k) (n + k))) ≡ Some bs
  undone_bounds [] k h scoped = refl
  undone_bounds (b ∷ bs) k h scoped =
      let first_scoped : IsTrue (scoped_bound b (length levels + k)) = grind (arith, common_steps) in
      let rest : IsTrue (all_at_scope (length levels + k) (map scoped_bound bs)) = grind (arith, common_steps) in
      let e : length levels + (k + b.binders) ≡ length levels + k + b.binders = omega arith in
      let here : IsTrue (in_scope_of b.body (length levels + (k + b.binders))) = rw e (rw scoped_bound-is at first_scoped) in
      let body = h.0 (k + b.binders) here in
      let others = undone_bounds bs k h.1 rest in
      let e1 : n + k + b.binders ≡ n + (k + b.binders) = omega arith in
      let first : unrenamed_bound levels n (sub_bound_of b (terms k) (n + k)) ≡ Some b =
      rw (sub_bound-is, unrenamed_bound-is, under-under, e1, body) refl in
      rw (first, others) refl

  undone_op : (o : Sym) (ps : List Param) (subs : List Bound) → OfEachBody IsUndone subs → IsUndone (Op o ps subs)
  undone_op o ps subs h k scoped =
      let test = rw in_scope-Op at scoped in
      rw (sub-Op _ o ps subs (terms k) (n + k) refl, unrenamed-Op, undone_bounds subs k h test) refl

  pub unrenamed-sub : (u : Term) (k : ℕ) → IsTrue (in_scope_of u (length levels + k)) →
      unrenamed levels n (sub_of u (under (map Var levels) n k) (n + k)) ≡ Some u
  unrenamed-sub = each_term IsUndone undone_var undone_op

  -- what is renamed is restored by the substitution
  abbrev IsRestored : Term → Type 0
  IsRestored t = (k : ℕ) (u : Term) → IsTrue (in_scope_of t (n + k)) → unrenamed levels n t ≡ Some u →
      (sub_of u (terms k) (n + k) ≡ t) × IsTrue (in_scope_of u (length levels + k))

  at_place : (level k i : ℕ) → level < n → position (λ x. nat_eq x level) levels ≡ Some i →
      (sub_of (Var i) (terms k) (n + k) ≡ Var level) × IsTrue (in_scope_of (Var i) (length levels + k))
  at_place level k i low found =
      let at = position-Some (λ x. nat_eq x level) levels i 0 found in
      let inside : i < length levels = at.0 in
      let item : get_or levels i 0 ≡ level = grind (arith, nat_tests, at.1) in
      let many = length-map levels Var in
      let first = under-low (map Var levels) n k i (Var i) (Var 0) (omega arith) in
      let second = get_or-map Var levels i 0 (Var 0) inside in
      (rw (sub-Var, first, second, item, weak-Var) (grind (arith, nat_tests)), rw in_scope-Var (grind (arith, nat_tests)))

  restored_low : (level k : ℕ) (u : Term) (place : Option ℕ) → level < n → position (λ x. nat_eq x level) levels ≡ place →
      option_map Var place ≡ Some u → (sub_of u (terms k) (n + k) ≡ Var level) × IsTrue (in_scope_of u (length levels + k))
  restored_low level k u None low found e = absurd (cc)
  restored_low level k u (Some i) low found e = let is : u ≡ Var i = cc in rw is (at_place level k i low found)

  restored_high : (level k : ℕ) → n ≤ level → level < n + k →
      (sub_of (Var (level - n + length levels)) (terms k) (n + k) ≡ Var level) × IsTrue (in_scope_of (Var (level - n + length levels)) (length levels + k))
  restored_high level k low high =
      let many = length-map levels Var in
      let i : ℕ = level - n + length levels in
      let item = under-high (map Var levels) n k i (Var i) (omega arith) (omega arith) in
      let back : n + (i - length (map Var levels)) ≡ level = omega arith in
      (rw (sub-Var, item, back) refl, rw in_scope-Var (grind (arith, nat_tests)))

  restored_var : (level : ℕ) → IsRestored (Var level)
  restored_var level k u scoped e =
      let test = rw in_scope-Var at scoped in
      let inside : level < n + k = grind (arith, nat_tests) in
      let is = rw unrenamed-Var at e in
      elim (cases_lt level n) [
        | inl low ↦ let e' : option_map Var (position (λ x. nat_eq x level) levels) ≡ Some u = grind (arith, nat_tests) in
            restored_low level k u (position (λ x. nat_eq x level) levels) low refl e'
        | inr high ↦ let e' : u ≡ Var (level - n + length levels) = grind (arith, nat_tests) in
            rw e' (restored_high level k high inside)
      ]

  abbrev Restores : List Bound → ℕ → List Bound → Type 0
  Restores bs k made = (sub_each (map sub_bound_of made) (terms k) (n + k) ≡ bs) × IsTrue (all_at_scope (length levels + k) (map scoped_bound made))

  joined : (b : Bound) (bs : List Bound) (k : ℕ) (u : Term) (rest : List Bound) →
      (sub_of u (terms (k + b.binders)) (n + (k + b.binders)) ≡ b.body) × IsTrue (in_scope_of u (length levels + (k + b.binders))) →
      Restores bs k rest → Restores (b ∷ bs) k (record { binders = b.binders; body = u } ∷ rest)
  joined b bs k u rest h hs =
      let e1 : n + k + b.binders ≡ n + (k + b.binders) = omega arith in
      let e2 : length levels + k + b.binders ≡ length levels + (k + b.binders) = omega arith in
      let new : Bound = record { binders = b.binders; body = u } in
      let first : sub_bound_of new (terms k) (n + k) ≡ b = rw (sub_bound-is, under-under, e1, h.0) refl in
      let here : IsTrue (scoped_bound new (length levels + k)) = rw (scoped_bound-is, e2) h.1 in
      (rw (first, hs.0) refl, grind (arith, common_steps, here, hs.1))

  both : (b : Bound) (bs : List Bound) (k : ℕ) (made : List Bound) (body : Option Term) (others : Option (List Bound)) →
      ((u : Term) → body ≡ Some u → (sub_of u (terms (k + b.binders)) (n + (k + b.binders)) ≡ b.body) × IsTrue (in_scope_of u (length levels + (k + b.binders)))) →
      ((rest : List Bound) → others ≡ Some rest → Restores bs k rest) →
      with_first (option_map (λ (t : Term). record { binders = b.binders; body = t }) body) others ≡ Some made → Restores (b ∷ bs) k made
  both b bs k made None others hb ho is = absurd (cc)
  both b bs k made (Some u) None hb ho is = absurd (cc)
  both b bs k made (Some u) (Some rest) hb ho is =
      let e : made ≡ record { binders = b.binders; body = u } ∷ rest = cc in
      rw e (joined b bs k u rest (hb u refl) (ho rest refl))

  of_made : (o : Sym) (ps : List Param) (subs : List Bound) (k : ℕ) (u : Term) (made : Option (List Bound)) →
      ((bs : List Bound) → made ≡ Some bs → Restores subs k bs) → option_map (Op o ps) made ≡ Some u →
      (sub_of u (terms k) (n + k) ≡ Op o ps subs) × IsTrue (in_scope_of u (length levels + k))
  of_made o ps subs k u None h is = absurd (cc)
  of_made o ps subs k u (Some bs) h is =
      let e : u ≡ Op o ps bs = cc in
      let r = h bs refl in
      rw e (rw (sub-Op _ o ps bs (terms k) (n + k) refl, r.0) refl, rw in_scope-Op r.1)

  restored_bounds : (bs : List Bound) (k : ℕ) (made : List Bound) → OfEachBody IsRestored bs → IsTrue (all_at_scope (n + k) (map scoped_bound bs)) →
      all_some (map (unrenamed_bound levels n) bs) ≡ Some made → Restores bs k made
  restored_bounds [] k made h scoped e = let none : made ≡ [] = cc in rw none (refl, refl)
  restored_bounds (b ∷ bs) k made h scoped e =
      let first_scoped : IsTrue (scoped_bound b (n + k)) = grind (arith, common_steps) in
      let rest_scoped : IsTrue (all_at_scope (n + k) (map scoped_bound bs)) = grind (arith, common_steps) in
      let e1 : n + (k + b.binders) ≡ n + k + b.binders = omega arith in
      let here : IsTrue (in_scope_of b.body (n + (k + b.binders))) = rw e1 (rw scoped_bound-is at first_scoped) in
      let apart = rw (all_some-cons, unrenamed_bound-is) at e in
      both b bs k made (unrenamed levels n b.body) (all_some (map (unrenamed_bound levels n) bs)) (λ u is. h.0 (k + b.binders) u here is)
      (λ rest is. restored_bounds bs k rest h.1 rest_scoped is) apart

  restored_op : (o : Sym) (ps : List Param) (subs : List Bound) → OfEachBody IsRestored subs → IsRestored (Op o ps subs)
  restored_op o ps subs h k u scoped e =
      let test = rw in_scope-Op at scoped in
      let made = rw unrenamed-Op at e in
      of_made o ps subs k u (all_some (map (unrenamed_bound levels n) subs)) (λ bs is. restored_bounds subs k bs h test is) made

  pub sub-unrenamed : (t : Term) (k : ℕ) (u : Term) → IsTrue (in_scope_of t (n + k)) → unrenamed levels n t ≡ Some u →
      (sub_of u (under (map Var levels) n k) (n + k) ≡ t) × IsTrue (in_scope_of u (length levels + k))
  sub-unrenamed = each_term IsRestored restored_var restored_op

pub renaming_of : (levels : List ℕ) (n : ℕ) (t : Term) (r : Option Term) → IsDistinct nat_eq levels → ((i : ℕ) → i < length levels → get_or levels i 0 < n) →
    IsTrue (in_scope_of t n) → r ≡ unrenamed levels n t → IsRenaming levels n t r
renaming_of levels n t None distinct below scoped is = λ u inner e.
    let p : length levels + 0 ≡ length levels = omega arith in
    let q : n + 0 ≡ n = omega arith in
    let undone = rw (under-none, q, e) at (unrenamed-sub levels n distinct below u 0 (rw p inner)) in
    absurd (cc)
renaming_of levels n t (Some u) distinct below scoped is =
    let p : length levels + 0 ≡ length levels = omega arith in
    let q : n + 0 ≡ n = omega arith in
    let both = rw (under-none, q, p) at (sub-unrenamed levels n distinct below t 0 u (rw q scoped) (sym is)) in
    (both.1, both.0, only) where
      only : (v : Term) → IsTrue (in_scope_of v (length levels)) → sub_of v (map Var levels) n ≡ t → v ≡ u
      only v inner e =
          let p' : length levels + 0 ≡ length levels = omega arith in
          let q' : n + 0 ≡ n = omega arith in
          let undone = rw (under-none, q', e) at (unrenamed-sub levels n distinct below v 0 (rw p' inner)) in
          cc

cases : (b : Bool) → (b ≡ true) ⊎ (b ≡ false)
cases true = inl refl
cases false = inr refl

below_at : (levels : List ℕ) (n q : ℕ) → All (λ l. l < n) levels → list_any (eqb q) levels ≡ true → q < n
below_at [] n q all any = absurd (cc)
below_at (l ∷ ls) n q all any =
    let here : l < n = all 0 0 (omega arith) in
    let later = below_at ls n q (λ k d h. all (suc k) d (omega arith)) in
    elim (cases (eqb q l)) [
      | inl same ↦ let e : q ≡ l = grind (arith, nat_tests) in rw e here
      | inr other ↦ later (grind (arith, common_steps, other))
    ]

pub few_levels : (levels : List ℕ) (n : ℕ) → IsDistinct nat_eq levels → All (λ l. l < n) levels → length levels ≤ n
few_levels levels n distinct all = length-le_from_distinct_below levels n distinct (λ q any. below_at levels n q all any)
