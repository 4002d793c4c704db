-- Moves after a substitution go into the terms that are put in.
use Rattle.std.proofs.Common.{◌≡◌, ℕ, ◌+◌, ◌-◌, ◌<◌, ◌≤◌, List, [], ◌∷◌, length, map, get_or, IsTrue, nat_lt, refl, sym, ap, ◌∙◌, inl, inr, arith}
use Rattle.std.specs.Prelude.{if◌then◌else◌}
use Rattle.std.proofs.lemmas.Bool.{cases_lt}
use Rattle.std.proofs.lemmas.Bool.Decides.{nat_tests}
use Rattle.std.proofs.lemmas.Grind.{common_steps}
use Rattle.std.proofs.lemmas.List.{get_or-map, length-map}
use Rattle.mp_logic.specs.declared.sym.Sym.{Sym}
use Rattle.mp_term.specs.declared.term.Param.{Param}
use Rattle.mp_term.specs.declared.term.Term.{Term, Var, Op}
use Rattle.mp_term.specs.declared.term.Bound.{Bound}
use Rattle.mp_term.specs.Induction.{OfEachBody, each_term}
use Rattle.mp_term.specs.Terms.{in_scope_of, all_at_scope}
use Rattle.mp_term.proofs.Layers.{scoped_bound, in_scope-Var, in_scope-Op, scoped_bound-is}
use Rattle.mp_term.specs.Subst.{weak, under, sub_of, sub_bound_of, sub_each}
use Rattle.mp_term.proofs.Layers.{sub-Var, sub-Op, sub_bound-is}
use Rattle.mp_term.proofs.SubLaws.{under-under, under-low, under-high, under-none}
use Rattle.mp_delay.specs.Moves.{relevel_by, relevel_bound}
use Rattle.mp_delay.proofs.Layers.{relevel-Var, relevel-Op, relevel_bound-is}
use Rattle.mp_delay.proofs.MoveLaws.{relevel-relevel, relevel-alike, weak-is_move}

-- moves that take the scope m to the scope m', and what is bound above it along
module _ (g : ℕ → ℕ) (m m' : ℕ) (low : (i : ℕ) → i < m → g i < m') (high : (i : ℕ) → g (m + i) ≡ m' + i) where
  abbrev up : ℕ → ℕ → ℕ → ℕ
  up n k i = if nat_lt i n then i else i + k

  past : (i : ℕ) → m ≤ i → g i ≡ m' + (i - m)
  past i h = let e : m + (i - m) ≡ i = omega (arith, h) in rw e at (high (i - m))

  crosses : (k i : ℕ) → g (up m k i) ≡ up m' k (g i)
  crosses k i = elim (cases_lt i m) [
    | inl short ↦
        let below = low i short in
        let left : up m k i ≡ i = grind (arith, nat_tests, short) in
        rw left (grind (arith, nat_tests, below))
    | inr long ↦
        let left : up m k i ≡ i + k = grind (arith, nat_tests, long) in
        let one = past (i + k) (omega (arith, long)) in
        let two = past i long in
        rw (left, one, two) (grind (arith, nat_tests, long))
  ]

  -- to weaken and then to move is to move and then to weaken
  pub relevel-weak : (k : ℕ) (t : Term) → relevel_by g (weak m k t) ≡ weak m' k (relevel_by g t)
  relevel-weak k t =
      ap (relevel_by g) (weak-is_move m k t) ∙ relevel-relevel (up m k) g t ∙ relevel-alike (λ i. g (up m k i)) (λ i. up m' k (g i)) (crosses k) t
      ∙ sym (relevel-relevel g (up m' k) t) ∙ sym (weak-is_move m' k (relevel_by g t))

  module _ (s : List Term) where
    abbrev moved_terms : List Term
    moved_terms = map (relevel_by g) s

    abbrev Goes : Term → Type 0
    Goes t = (j : ℕ) → IsTrue (in_scope_of t (length s + j)) → relevel_by g (sub_of t (under s m j) (m + j)) ≡ sub_of t (under moved_terms m' j) (m' + j)

    goes_var : (i : ℕ) → Goes (Var i)
    goes_var i j scoped =
        let test = rw in_scope-Var at scoped in
        let inside : i < length s + j = grind (arith, nat_tests, test) in
        let long : length moved_terms ≡ length s = length-map s (relevel_by g) in
        rw (sub-Var i (under s m j) (m + j), sub-Var i (under moved_terms m' j) (m' + j)) (elim (cases_lt i (length s)) [
          | inl short ↦
              let left = under-low s m j i (Var i) (Var 0) short in
              let right = under-low moved_terms m' j i (Var i) (relevel_by g (Var 0)) (omega (arith, long, short)) in
              let item = get_or-map (relevel_by g) s i (Var 0) (relevel_by g (Var 0)) short in
              rw (left, right, item) (relevel-weak j (get_or s i (Var 0)))
          | inr far ↦
              let left = under-high s m j i (Var i) far inside in
              let right = under-high moved_terms m' j i (Var i) (omega (arith, long, far)) (omega (arith, long, inside)) in
              rw (left, right, long, relevel-Var, high (i - length s)) refl
        ])

    goes_bounds : (bs : List Bound) (j : ℕ) → OfEachBody Goes bs → IsTrue (all_at_scope (length s + j) (map scoped_bound bs)) →
        map (relevel_bound g) (sub_each (map sub_bound_of bs) (under s m j) (m + j)) ≡ sub_each (map sub_bound_of bs) (under moved_terms m' j) (m' + j)
    goes_bounds [] j h scoped = refl
    goes_bounds (b ∷ bs) j h scoped =
        let first_scoped : IsTrue (scoped_bound b (length s + j)) = grind (arith, common_steps, scoped) in
        let rest_scoped : IsTrue (all_at_scope (length s + j) (map scoped_bound bs)) = grind (arith, common_steps, scoped) in
        let e0 : length s + (j + b.binders) ≡ length s + j + b.binders = omega arith in
        let here : IsTrue (in_scope_of b.body (length s + (j + b.binders))) = rw e0 (rw scoped_bound-is at first_scoped) in
        let e : m + j + b.binders ≡ m + (j + b.binders) = omega arith in
        let e' : m' + j + b.binders ≡ m' + (j + b.binders) = omega arith in
        let body = h.0 (j + b.binders) here in
        let rest = goes_bounds bs j h.1 rest_scoped in
        let first : relevel_bound g (sub_bound_of b (under s m j) (m + j)) ≡ sub_bound_of b (under moved_terms m' j) (m' + j) =
        rw (sub_bound-is, sub_bound-is, relevel_bound-is, under-under, under-under, e, e', body) refl in
        rw (first, rest) refl

    goes_op : (o : Sym) (ps : List Param) (bs : List Bound) → OfEachBody Goes bs → Goes (Op o ps bs)
    goes_op o ps bs h j scoped =
        let test = rw in_scope-Op at scoped in
        let left = sub-Op (Op o ps bs) o ps bs (under s m j) (m + j) refl in
        let right = sub-Op (Op o ps bs) o ps bs (under moved_terms m' j) (m' + j) refl in
        rw (left, right, relevel-Op, goes_bounds bs j h test) refl

    relevel-sub_under : (t : Term) (j : ℕ) → IsTrue (in_scope_of t (length s + j)) →
        relevel_by g (sub_of t (under s m j) (m + j)) ≡ sub_of t (under moved_terms m' j) (m' + j)
    relevel-sub_under = each_term Goes goes_var goes_op

    -- moves after a substitution
    pub relevel-sub : (t : Term) → IsTrue (in_scope_of t (length s)) → relevel_by g (sub_of t s m) ≡ sub_of t (map (relevel_by g) s) m'
    relevel-sub t scoped =
        let z : length s + 0 ≡ length s = omega arith in
        let z' : m + 0 ≡ m = omega arith in
        let z'' : m' + 0 ≡ m' = omega arith in
        rw (under-none, under-none, z', z'') at (relevel-sub_under t 0 (rw z scoped))
