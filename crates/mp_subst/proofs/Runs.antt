-- The levels of runs, and where a level stands in them.
use Rattle.std.proofs.Common.{◌≡◌, ℕ, ◌+◌, ◌-◌, ◌<◌, ◌≤◌, List, [], ◌∷◌, ◌++◌, length, map, get_or, set, drop, zero, suc, Bool, true, false, nat_eq, nat_lt, position, IsTrue, Some, None, inl, inr, refl, sym, ap, ◌∙◌, append_assoc, append-nil, arith}
use Rattle.std.specs.List.{position_or_len}
use Rattle.std.proofs.lemmas.Bool.{cases_lt}
use Rattle.std.proofs.lemmas.Bool.Decides.{nat_tests}
use Rattle.std.proofs.lemmas.Grind.{common_steps}
use Rattle.std.proofs.lemmas.List.{length-append}
use Rattle.mp_term.specs.declared.term.Term.{Term, Var}
use Rattle.mp_term.specs.Terms.{in_scope_of}
use Rattle.mp_term.specs.Subst.{upto, sub_of, IsRenaming, IsFoundWhereListed}
use Rattle.mp_term.proofs.SubLaws.{drop-at}
use Rattle.mp_term.proofs.Laws.{substitution_of_variables}
use Rattle.mp_term.proofs.Ranges.{length-upto, upto-append, map-Var-upto, listed-upto}
use Rattle.mp_subst.specs.declared.levels.Run.{Run}
use Rattle.mp_subst.specs.Runs.{levels_in}

pub levels_in-append : (rs ss : List Run) → levels_in (rs ++ ss) ≡ levels_in rs ++ levels_in ss
levels_in-append [] ss = refl
levels_in-append (r ∷ rs) ss = rw (levels_in-append rs ss, append_assoc) refl

-- one run more
pub run_added : (rs : List Run) (r : Run) → levels_in (rs ++ r ∷ []) ≡ levels_in rs ++ upto r.first r.count
run_added rs r = levels_in-append rs (r ∷ []) ∙ ap (λ xs. levels_in rs ++ xs) (append-nil (upto r.first r.count))

-- a run that follows another one
pub run_joined : (m k n j : ℕ) → m ≤ n → n - m ≡ k → upto m (k + j) ≡ upto m k ++ upto n j
run_joined m k n j low is = let e : n ≡ m + k = omega arith in rw e (sym (upto-append m k j))

-- two runs stand where the last one stood
pub last_joined : (rs : List Run) (k : ℕ) (last r both : Run) → k + 1 ≡ length rs → last ≡ get_or rs k last →
    upto both.first both.count ≡ upto last.first last.count ++ upto r.first r.count → levels_in (set rs k both) ≡ levels_in rs ++ upto r.first r.count
last_joined [] k last r both many is joined = absurd (omega (arith, many))
last_joined (x ∷ y ∷ rs) zero last r both many is joined = absurd (omega (arith, many))
last_joined (x ∷ []) zero last r both many is joined =
    append-nil (upto both.first both.count) ∙ joined ∙ ap (λ (z : Run). upto z.first z.count ++ upto r.first r.count) is ∙ ap (λ xs. xs ++ upto r.first r.count) (sym (append-nil (upto x.first x.count)))
last_joined (x ∷ rs) (suc k) last r both many is joined =
    ap (λ xs. upto x.first x.count ++ xs) (last_joined rs k last r both (omega (arith, many)) is joined) ∙ sym (append_assoc (upto x.first x.count) (levels_in rs) (upto r.first r.count))

-- the run at a place
abbrev pub run_at : List Run → ℕ → Run
run_at runs k = get_or runs k (record { first = 0; count = 0 })

runs-from : (runs : List Run) (k : ℕ) → k < length runs → drop k runs ≡ run_at runs k ∷ drop (k + 1) runs
runs-from runs k low = drop-at runs k (run_at runs k) low (grind (arith, common_steps))

-- the number of levels from a run on
pub run-count : (runs : List Run) (k : ℕ) → k < length runs → length (levels_in (drop k runs)) ≡ (run_at runs k).count + length (levels_in (drop (k + 1) runs))
run-count runs k low =
    let r = run_at runs k in
    let e = runs-from runs k low in
    rw e (length-append (upto r.first r.count) (levels_in (drop (k + 1) runs)) ∙ ap (λ n. n + length (levels_in (drop (k + 1) runs))) (length-upto r.first r.count))

module _ (i : ℕ) where
  abbrev is_it : ℕ → Bool
  is_it x = nat_eq x i

  place-inside : (m k : ℕ) (ys : List ℕ) → m ≤ i → i < m + k → position_or_len is_it (upto m k ++ ys) ≡ i - m
  place-inside m zero ys low high = absurd (omega arith)
  place-inside m (suc k) ys low high = elim (cases_lt m i) [
    | inl less ↦
        let r = place-inside (suc m) k ys (omega arith) (omega arith) in
        let e : nat_eq m i ≡ false = grind (arith, nat_tests) in grind (arith, common_steps, r, e)
    | inr same ↦ let e : nat_eq m i ≡ true = grind (arith, nat_tests) in grind (arith, common_steps, e)
  ]

  place-outside : (m k : ℕ) (ys : List ℕ) → (m ≤ i → k ≤ i - m) → position_or_len is_it (upto m k ++ ys) ≡ k + position_or_len is_it ys
  place-outside m zero ys out = grind arith
  place-outside m (suc k) ys out =
      let r = place-outside (suc m) k ys (λ h. let o = out (omega arith) in omega (arith, o)) in
      let e : nat_eq m i ≡ false = elim (cases_lt i m) [
        | inl less ↦ grind (arith, nat_tests)
        | inr more ↦ let o = out more in grind (arith, nat_tests, o)
      ] in
      grind (arith, common_steps, r, e)

  -- these runs are left, behind so many levels
  pub record Left (runs rest : List Run) (before : ℕ) : Type 0 where
    pub place : before + position_or_len is_it (levels_in rest) ≡ position_or_len is_it (levels_in runs)
    pub count : before + length (levels_in rest) ≡ length (levels_in runs)

  pub Left-here : (runs : List Run) (k before : ℕ) → k < length runs → Left runs (drop k runs) before → (run_at runs k).first ≤ i → i - (run_at runs k).first < (run_at runs k).count →
      Some (before + (i - (run_at runs k).first)) ≡ position is_it (levels_in runs)
  Left-here runs k before inside held low high =
      let r = run_at runs k in
      let rest = drop (k + 1) runs in
      let left : Left runs (r ∷ rest) before = rw (runs-from runs k inside) at held in
      let p = place-inside r.first r.count (levels_in rest) low (omega arith) in
      let a = left.place in
      let c = left.count in
      let l = length-append (upto r.first r.count) (levels_in rest) in
      let u = length-upto r.first r.count in
      let place : position_or_len is_it (levels_in runs) ≡ before + (i - r.first) = omega (arith, a, p) in
      let inside : nat_lt (before + (i - r.first)) (length (levels_in runs)) ≡ true = grind (arith, nat_tests, c, l, u) in
      rw place (rw inside refl)

  pub Left-next : (runs : List Run) (k before : ℕ) → k < length runs → Left runs (drop k runs) before → ((run_at runs k).first ≤ i → (run_at runs k).count ≤ i - (run_at runs k).first) →
      Left runs (drop (k + 1) runs) (before + (run_at runs k).count)
  Left-next runs k before inside held out =
      let r = run_at runs k in
      let rest = drop (k + 1) runs in
      let left : Left runs (r ∷ rest) before = rw (runs-from runs k inside) at held in
      let p = place-outside r.first r.count (levels_in rest) out in
      let a = left.place in
      let c = left.count in
      let l = length-append (upto r.first r.count) (levels_in rest) in
      let u = length-upto r.first r.count in
      record { place = omega (arith, a, p); count = omega (arith, c, l, u) }

  pub Left-end : (runs : List Run) (before : ℕ) → Left runs [] before → None ≡ position is_it (levels_in runs)
  Left-end runs before left =
      let a = left.place in
      let c = left.count in
      let place : position_or_len is_it (levels_in runs) ≡ length (levels_in runs) = grind (arith, common_steps, a, c) in
      rw place (grind (arith, nat_tests))

-- ## The whole scope

module _ (n : ℕ) (t : Term) (scoped : IsTrue (in_scope_of t n)) where
  same : (u : Term) → IsTrue (in_scope_of u n) → sub_of u (map Var (upto 0 n)) n ≡ u
  same u h = rw map-Var-upto (substitution_of_variables u n h)

  -- in a whole scope a term is its own renaming
  pub whole-renaming : (levels : List ℕ) → levels ≡ upto 0 n → IsRenaming levels n t (Some t)
  whole-renaming levels is =
      let l = length-upto 0 n in
      rw (is, l) (scoped, same t scoped, λ v h e. sym (same v h) ∙ e)

  pub whole-listed : (levels : List ℕ) → levels ≡ upto 0 n → IsFoundWhereListed levels n t (Some t)
  whole-listed levels is i low stands = rw is (listed-upto i 0 n (omega arith) (omega arith))
