-- To substitute variables is to move, and a renaming is undone by a move.
use Rattle.std.proofs.Common.{◌≡◌, ℕ, ◌+◌, ◌-◌, ◌<◌, ◌≤◌, List, [], ◌∷◌, length, map, get_or, IsTrue, nat_eq, refl, sym, ap, ◌∙◌, inl, inr, eq-eqb, arith}
use Rattle.std.specs.List.{IsDistinct, position_or_len}
use Rattle.std.proofs.lemmas.Bool.{cases_lt}
use Rattle.std.proofs.lemmas.Bool.Decides.{nat_tests}
use Rattle.std.proofs.lemmas.Grind.{common_steps}
use Rattle.std.proofs.lemmas.List.{get_or-map, length-map}
use Rattle.std.proofs.lemmas.List.Sums.{position_or_len_is}
use Rattle.std.proofs.lemmas.Map.Keys.{apart_from_distinct}
use Rattle.mp_logic.specs.declared.sym.Sym.{Sym}
use Rattle.mp_term.specs.declared.term.Param.{Param}
use Rattle.mp_term.specs.declared.term.Term.{Term, Var, Op}
use Rattle.mp_term.specs.declared.term.Bound.{Bound}
use Rattle.mp_term.specs.Induction.{OfEachBody, each_term}
use Rattle.mp_term.specs.Terms.{in_scope_of, all_at_scope}
use Rattle.mp_term.proofs.Layers.{scoped_bound, in_scope-Var, in_scope-Op, scoped_bound-is}
use Rattle.mp_term.specs.Subst.{weak, under, sub_of, sub_bound_of, sub_each}
use Rattle.mp_term.proofs.Layers.{weak-Var, sub-Var, sub-Op, sub_bound-is}
use Rattle.mp_term.proofs.SubLaws.{under-under, under-low, under-high, under-none}
use Rattle.mp_term.proofs.Renaming.{renaming_of}
use Rattle.mp_term.proofs.FreeVariables.{found_where_listed}
use Rattle.std.specs.Prelude.{All, Bool, IsFalse, Option, Some, None}
use Rattle.mp_term.specs.Subst.{unrenamed, occurs_in, is_listed, IsRenaming, IsFoundWhereListed}
use Rattle.mp_delay.specs.Moves.{relevel_by, relevel_bound}
use Rattle.mp_delay.specs.Renamings.{listed, placed}
use Rattle.mp_delay.proofs.Layers.{relevel-Var, relevel-Op, relevel_bound-is}
use Rattle.mp_delay.proofs.MoveLaws.{relevel-undone}

module _ (levels : List ℕ) (m : ℕ) (below : (i : ℕ) → i < length levels → get_or levels i 0 < m) where
  abbrev terms : ℕ → List Term
  terms k = under (map Var levels) m k

  abbrev IsRenamed : Term → Type 0
  IsRenamed t = (k : ℕ) → IsTrue (in_scope_of t (length levels + k)) → sub_of t (terms k) (m + k) ≡ relevel_by (listed levels m) t

  renamed_low : (i k : ℕ) → i < length levels → get_or (terms k) i (Var i) ≡ Var (listed levels m i)
  renamed_low i k h =
      let low = under-low (map Var levels) m k i (Var i) (Var 0) (grind (arith, common_steps)) in
      let item = get_or-map Var levels i 0 (Var 0) h in
      let is_below = below i h in
      let stays : weak m k (Var (get_or levels i 0)) ≡ Var (get_or levels i 0) = rw weak-Var (grind (arith, nat_tests)) in
      rw (low, item, stays) (grind (arith, nat_tests))

  renamed_high : (i k : ℕ) → length levels ≤ i → i < length levels + k → get_or (terms k) i (Var i) ≡ Var (listed levels m i)
  renamed_high i k low high =
      let many = length-map levels Var in
      let item = under-high (map Var levels) m k i (Var i) (omega arith) (omega arith) in
      rw (item, many) (grind (arith, nat_tests))

  renamed_var : (i : ℕ) → IsRenamed (Var i)
  renamed_var i k scoped =
      let test = rw in_scope-Var at scoped in
      let inside : i < length levels + k = grind (arith, nat_tests) in
      rw (sub-Var, relevel-Var) (elim (cases_lt i (length levels)) [ inl low ↦ renamed_low i k low | inr high ↦ renamed_high i k high inside ])

  renamed_bounds : (bs : List Bound) (k : ℕ) → OfEachBody IsRenamed bs → IsTrue (all_at_scope (length levels + k) (map scoped_bound bs)) →
      sub_each (map sub_bound_of bs) (terms k) (m + k) ≡ map (relevel_bound (listed levels m)) bs
  renamed_bounds [] k h scoped = refl
  renamed_bounds (b ∷ bs) k h scoped =
      let first_scoped : IsTrue (scoped_bound b (length levels + k)) = grind (arith, common_steps) in
      let rest : IsTrue (all_at_scope (length levels + k) (map scoped_bound bs)) = grind (arith, common_steps) in
      let e : length levels + (k + b.binders) ≡ length levels + k + b.binders = omega arith in
      let here : IsTrue (in_scope_of b.body (length levels + (k + b.binders))) = rw e (rw scoped_bound-is at first_scoped) in
      let body = h.0 (k + b.binders) here in
      let others = renamed_bounds bs k h.1 rest in
      let e1 : m + k + b.binders ≡ m + (k + b.binders) = omega arith in
      let first : sub_bound_of b (terms k) (m + k) ≡ relevel_bound (listed levels m) b =
      rw (sub_bound-is, relevel_bound-is, under-under, e1, body) refl in
      rw (first, others) refl

  renamed_op : (o : Sym) (ps : List Param) (subs : List Bound) → OfEachBody IsRenamed subs → IsRenamed (Op o ps subs)
  renamed_op o ps subs h k scoped =
      let test = rw in_scope-Op at scoped in
      rw (sub-Op _ o ps subs (terms k) (m + k) refl, relevel-Op, renamed_bounds subs k h test) refl

  pub sub-is_move_under : (t : Term) (k : ℕ) → IsTrue (in_scope_of t (length levels + k)) → sub_of t (under (map Var levels) m k) (m + k) ≡ relevel_by (listed levels m) t
  sub-is_move_under = each_term IsRenamed renamed_var renamed_op

  -- the list that moves stand for: to substitute these variables is to move
  pub sub-is_move : (t : Term) → IsTrue (in_scope_of t (length levels)) → sub_of t (map Var levels) m ≡ relevel_by (listed levels m) t
  sub-is_move t scoped =
      let p : length levels + 0 ≡ length levels = omega arith in
      let q : m + 0 ≡ m = omega arith in
      rw (under-none, q) at (sub-is_move_under t 0 (rw p scoped))

module _ (levels : List ℕ) (n : ℕ) (distinct : IsDistinct nat_eq levels) (below : (i : ℕ) → i < length levels → get_or levels i 0 < n) where
  place-at : (i : ℕ) → i < length levels → position_or_len (λ x. nat_eq x (get_or levels i 0)) levels ≡ i
  place-at i h =
      position_or_len_is (λ x. nat_eq x (get_or levels i 0)) levels i 0 (omega arith)
      (λ k before. apart_from_distinct nat_eq levels k i 0 distinct before h) (λ _. eq-eqb _ _ refl)

  placed_low : (i : ℕ) → i < length levels → placed levels n (listed levels n i) ≡ i
  placed_low i h =
      let is : listed levels n i ≡ get_or levels i 0 = grind (arith, nat_tests) in
      let low = below i h in
      let at = place-at i h in
      rw is (grind (arith, nat_tests, at))

  placed_high : (i : ℕ) → length levels ≤ i → placed levels n (listed levels n i) ≡ i
  placed_high i h =
      let is : listed levels n i ≡ n + (i - length levels) = grind (arith, nat_tests) in
      rw is (grind (arith, nat_tests))

  pub placed-listed : (i : ℕ) → placed levels n (listed levels n i) ≡ i
  placed-listed i = elim (cases_lt i (length levels)) [ inl low ↦ placed_low i low | inr high ↦ placed_high i high ]

  -- the inverse: the one term that gives t is t, moved back
  pub renaming-is_move : (u t : Term) → IsTrue (in_scope_of u (length levels)) → sub_of u (map Var levels) n ≡ t → u ≡ relevel_by (placed levels n) t
  renaming-is_move u t scoped e =
      let forth = sub-is_move levels n below u scoped in
      let back = relevel-undone (listed levels n) (placed levels n) placed-listed u in
      sym back ∙ ap (relevel_by (placed levels n)) (sym forth ∙ e)

  -- a substitution of distinct variables gives one term from one term alone
  pub renaming-injective : (u v : Term) → IsTrue (in_scope_of u (length levels)) → IsTrue (in_scope_of v (length levels)) →
      sub_of u (map Var levels) n ≡ sub_of v (map Var levels) n → u ≡ v
  renaming-injective u v one other e = renaming-is_move u _ one e ∙ sym (renaming-is_move v _ other refl)

-- where each free variable is listed there is such a term, and it is t, moved back
module _ (levels : List ℕ) (n : ℕ) (t : Term) (distinct : IsDistinct nat_eq levels) (all : All (λ l. l < n) levels) (scoped : IsTrue (in_scope_of t n))
    (each : (i : ℕ) → i < n → IsTrue (occurs_in i t) → IsTrue (is_listed i levels)) where
  found_back : (r : Option Term) → IsRenaming levels n t r → IsFoundWhereListed levels n t r →
      IsTrue (in_scope_of (relevel_by (placed levels n) t) (length levels)) × (sub_of (relevel_by (placed levels n) t) (map Var levels) n ≡ t)
  found_back None none free =
      let i = free.0 in
      let here = each i free.1.0 free.1.1 in
      absurd (contradicts (is_listed i levels) here free.1.2) where
        contradicts : (b : Bool) → IsTrue b → IsFalse b → ⊥
        contradicts b p q = absurd (cc)
  found_back (Some u) is free =
      let same = renaming-is_move levels n distinct (λ i h. all i 0 h) u t is.0 is.1 in
      (rw (sym same) is.0, rw (sym same) is.1)

  pub renaming-exists : IsTrue (in_scope_of (relevel_by (placed levels n) t) (length levels)) × (sub_of (relevel_by (placed levels n) t) (map Var levels) n ≡ t)
  renaming-exists =
      found_back (unrenamed levels n t) (renaming_of levels n t (unrenamed levels n t) distinct (λ i h. all i 0 h) scoped refl)
      (found_where_listed levels n t (unrenamed levels n t) refl)
