-- Weakening and substitution, one after the other.
use Rattle.std.proofs.Common.{◌≡◌, ℕ, ◌+◌, ◌-◌, ◌<◌, List, [], ◌∷◌, ◌++◌, length, map, get_or, IsTrue, refl, sym, ◌∙◌, inl, inr, arith}
use Rattle.std.proofs.lemmas.Bool.{cases_lt}
use Rattle.std.proofs.lemmas.Bool.Decides.{nat_tests}
use Rattle.std.proofs.lemmas.Grind.{common_steps}
use Rattle.std.proofs.lemmas.List.{length-map, length-append, get_or-map, get_or_append_left}
use Rattle.mp_logic.specs.declared.sym.Sym.{Sym}
use Rattle.mp_term.specs.declared.term.Param.{Param}
use Rattle.mp_term.specs.declared.term.Term.{Term, Var, Op}
use Rattle.mp_term.specs.declared.term.Bound.{Bound}
use Rattle.mp_term.specs.Induction.{OfEachBody, each_term}
use Rattle.mp_term.specs.Terms.{in_scope_of, all_at_scope}
use Rattle.mp_term.proofs.Layers.{scoped_bound, in_scope-Var, in_scope-Op, scoped_bound-is, weak-Var, weak-Op, weak_bound-is, sub-Var, sub-Op, sub_bound-is}
use Rattle.mp_term.specs.Subst.{weak, weak_bound, variables, under, sub_of, sub_bound_of, sub_each, AreInScope}
use Rattle.mp_term.proofs.WeakLaws.{weak-weak, weak-stacked}
use Rattle.mp_term.proofs.SubLaws.{under-under, under-low, under-high, under-none, length-variables, variables-append, map-weak-variables, get_or-variables, AreInScope-at}

-- what every case of an operator uses: a body in scope n + j is in scope by itself
body_scoped : (b : Bound) (bs : List Bound) (n j : ℕ) → IsTrue (all_at_scope (n + j) (map scoped_bound (b ∷ bs))) →
    IsTrue (in_scope_of b.body (n + (j + b.binders))) × IsTrue (all_at_scope (n + j) (map scoped_bound bs))
body_scoped b bs n j scoped =
    let first : IsTrue (scoped_bound b (n + j)) = grind (arith, common_steps) in
    let rest : IsTrue (all_at_scope (n + j) (map scoped_bound bs)) = grind (arith, common_steps) in
    let e : n + j + b.binders ≡ n + (j + b.binders) = omega arith in
    (rw (scoped_bound-is, e) at first, rest)

-- terms put for the variables that a weakening skipped change nothing
module _ (s extra : List Term) (m : ℕ) where
  abbrev Skips : Term → Type 0
  Skips t = (j : ℕ) → IsTrue (in_scope_of t (length s + j)) →
      sub_of (weak (length s) (length extra) t) (under (s ++ extra) m j) (m + j) ≡ sub_of t (under s m j) (m + j)

  skips_var : (i : ℕ) → Skips (Var i)
  skips_var i j scoped =
      let test = rw in_scope-Var at scoped in
      let inside : i < length s + j = grind (arith, nat_tests, test) in
      let long : length (s ++ extra) ≡ length s + length extra = length-append s extra in
      elim (cases_lt i (length s)) [
        | inl low ↦
            let stays : weak (length s) (length extra) (Var i) ≡ Var i = rw weak-Var (grind (arith, nat_tests)) in
            let left = under-low (s ++ extra) m j i (Var i) (Var 0) (omega arith) in
            let item = get_or_append_left s extra (Var 0) i low in
            let right = under-low s m j i (Var i) (Var 0) low in
            rw (stays, sub-Var i (under (s ++ extra) m j) (m + j), sub-Var i (under s m j) (m + j), left, item, right) refl
        | inr high ↦
            let moves : weak (length s) (length extra) (Var i) ≡ Var (i + length extra) = rw weak-Var (grind (arith, nat_tests)) in
            let left = under-high (s ++ extra) m j (i + length extra) (Var (i + length extra)) (omega arith) (omega arith) in
            let right = under-high s m j i (Var i) high inside in
            let e : i + length extra - length (s ++ extra) ≡ i - length s = omega arith in
            rw (moves, sub-Var, sub-Var, left, right, e) refl
      ]

  skips_bounds : (bs : List Bound) (j : ℕ) → OfEachBody Skips bs → IsTrue (all_at_scope (length s + j) (map scoped_bound bs)) →
      sub_each (map sub_bound_of (map (weak_bound (length s) (length extra)) bs)) (under (s ++ extra) m j) (m + j)
      ≡ sub_each (map sub_bound_of bs) (under s m j) (m + j)
  skips_bounds [] j h scoped = refl
  skips_bounds (b ∷ bs) j h scoped =
      let in_both = body_scoped b bs (length s) j scoped in
      let e : m + j + b.binders ≡ m + (j + b.binders) = omega arith in
      let body = h.0 (j + b.binders) in_both.0 in
      let rest = skips_bounds bs j h.1 in_both.1 in
      let first : sub_bound_of (weak_bound (length s) (length extra) b) (under (s ++ extra) m j) (m + j) ≡ sub_bound_of b (under s m j) (m + j) =
      rw (weak_bound-is, sub_bound-is, sub_bound-is, under-under, under-under, e, body) refl in
      rw (first, rest) refl

  skips_op : (o : Sym) (ps : List Param) (bs : List Bound) → OfEachBody Skips bs → Skips (Op o ps bs)
  skips_op o ps bs h j scoped =
      let test = rw in_scope-Op at scoped in
      let left = sub-Op (Op o ps (map (weak_bound (length s) (length extra)) bs)) o ps (map (weak_bound (length s) (length extra)) bs) (under (s ++ extra) m j) (m + j) refl in
      let right = sub-Op (Op o ps bs) o ps bs (under s m j) (m + j) refl in
      rw (weak-Op, left, right, skips_bounds bs j h test) refl

  pub sub_under-weak : (t : Term) (j : ℕ) → IsTrue (in_scope_of t (length s + j)) →
      sub_of (weak (length s) (length extra) t) (under (s ++ extra) m j) (m + j) ≡ sub_of t (under s m j) (m + j)
  sub_under-weak = each_term Skips skips_var skips_op

pub sub-weak : (s extra : List Term) (m n k : ℕ) (t : Term) → length s ≡ n → length extra ≡ k → IsTrue (in_scope_of t n) →
    sub_of (weak n k t) (s ++ extra) m ≡ sub_of t s m
sub-weak s extra m n k t es ee scoped =
    let z : length s + 0 ≡ n = omega arith in
    let z' : m + 0 ≡ m = omega arith in
    rw (under-none, under-none, z', ee, es) at (sub_under-weak s extra m t 0 (rw z scoped))

-- to substitute and then to weaken is to weaken what is substituted
module _ (s : List Term) (m k : ℕ) where
  abbrev Commutes : Term → Type 0
  Commutes t = (j : ℕ) → IsTrue (in_scope_of t (length s + j)) →
      weak m k (sub_of t (under s m j) (m + j)) ≡ sub_of t (under (map (weak m k) s) (m + k) j) (m + k + j)

  commutes_var : (i : ℕ) → Commutes (Var i)
  commutes_var i j scoped =
      let test = rw in_scope-Var at scoped in
      let inside : i < length s + j = grind (arith, nat_tests, test) in
      let long : length (map (weak m k) s) ≡ length s = length-map s (weak m k) in
      rw (sub-Var, sub-Var) (elim (cases_lt i (length s)) [
        | inl low ↦
            let left = under-low s m j i (Var i) (Var 0) low in
            let right = under-low (map (weak m k) s) (m + k) j i (Var i) (Var 0) (omega arith) in
            let item = get_or-map (weak m k) s i (Var 0) (Var 0) low in
            let e : j + k ≡ k + j = omega arith in
            rw (left, right, item, weak-stacked, weak-weak, e) refl
        | inr high ↦
            let left = under-high s m j i (Var i) high inside in
            let right = under-high (map (weak m k) s) (m + k) j i (Var i) (omega arith) (omega arith) in
            let moved : weak m k (Var (m + (i - length s))) ≡ Var (m + (i - length s) + k) = rw weak-Var (grind (arith, nat_tests)) in
            let e : m + k + (i - length s) ≡ m + (i - length s) + k = omega arith in
            rw (left, right, long, moved, e) refl
      ])

  commutes_bounds : (bs : List Bound) (j : ℕ) → OfEachBody Commutes bs → IsTrue (all_at_scope (length s + j) (map scoped_bound bs)) →
      map (weak_bound m k) (sub_each (map sub_bound_of bs) (under s m j) (m + j))
      ≡ sub_each (map sub_bound_of bs) (under (map (weak m k) s) (m + k) j) (m + k + j)
  commutes_bounds [] j h scoped = refl
  commutes_bounds (b ∷ bs) j h scoped =
      let in_both = body_scoped b bs (length s) j scoped in
      let e : m + j + b.binders ≡ m + (j + b.binders) = omega arith in
      let e' : m + k + j + b.binders ≡ m + k + (j + b.binders) = omega arith in
      let body = h.0 (j + b.binders) in_both.0 in
      let rest = commutes_bounds bs j h.1 in_both.1 in
      let first : weak_bound m k (sub_bound_of b (under s m j) (m + j)) ≡ sub_bound_of b (under (map (weak m k) s) (m + k) j) (m + k + j) =
      rw (sub_bound-is, sub_bound-is, weak_bound-is, under-under, under-under, e, e', body) refl in
      rw (first, rest) refl

  commutes_op : (o : Sym) (ps : List Param) (bs : List Bound) → OfEachBody Commutes bs → Commutes (Op o ps bs)
  commutes_op o ps bs h j scoped =
      let test = rw in_scope-Op at scoped in
      let left = sub-Op (Op o ps bs) o ps bs (under s m j) (m + j) refl in
      let right = sub-Op (Op o ps bs) o ps bs (under (map (weak m k) s) (m + k) j) (m + k + j) refl in
      rw (left, right, weak-Op, commutes_bounds bs j h test) refl

  pub weak-sub_under : (t : Term) (j : ℕ) → IsTrue (in_scope_of t (length s + j)) →
      weak m k (sub_of t (under s m j) (m + j)) ≡ sub_of t (under (map (weak m k) s) (m + k) j) (m + k + j)
  weak-sub_under = each_term Commutes commutes_var commutes_op

pub weak-sub : (s : List Term) (m k : ℕ) (t : Term) → IsTrue (in_scope_of t (length s)) →
    weak m k (sub_of t s m) ≡ sub_of t (map (weak m k) s) (m + k)
weak-sub s m k t scoped =
    let z : length s + 0 ≡ length s = omega arith in
    let z' : m + 0 ≡ m = omega arith in
    let z'' : m + k + 0 ≡ m + k = omega arith in
    rw (under-none, under-none, z', z'') at (weak-sub_under s m k t 0 (rw z scoped))

under-is : (s : List Term) (m k : ℕ) → under s m k ≡ map (weak m k) s ++ variables m k
unfolding under
under-is s m k = refl

-- to substitute twice is to substitute once
module _ (s r : List Term) (m p : ℕ) (count : length r ≡ m) (all : AreInScope m s) where
  abbrev replaced : List Term
  replaced = map (λ u. sub_of u r p) s

  abbrev Composes : Term → Type 0
  Composes t = (j : ℕ) → IsTrue (in_scope_of t (length s + j)) →
      sub_of (sub_of t (under s m j) (m + j)) (under r p j) (p + j) ≡ sub_of t (under replaced p j) (p + j)

  composes_low : (i j : ℕ) → i < length s → sub_of (weak m j (get_or s i (Var 0))) (under r p j) (p + j) ≡ weak p j (sub_of (get_or s i (Var 0)) r p)
  composes_low i j low =
      let scoped = AreInScope-at m s i (Var 0) low all in
      let moved = weak-sub r p j (get_or s i (Var 0)) (rw count scoped) in
      let long : length (map (weak p j) r) ≡ m = length-map r (weak p j) ∙ count in
      rw (under-is, sub-weak (map (weak p j) r) (variables p j) (p + j) m j (get_or s i (Var 0)) long (length-variables p j) scoped) (sym moved)

  composes_var : (i : ℕ) → Composes (Var i)
  composes_var i j scoped =
      let test = rw in_scope-Var at scoped in
      let inside : i < length s + j = grind (arith, nat_tests, test) in
      let long : length replaced ≡ length s = length-map s (λ u. sub_of u r p) in
      rw (sub-Var i (under s m j) (m + j), sub-Var i (under replaced p j) (p + j)) (elim (cases_lt i (length s)) [
        | inl low ↦
            let left = under-low s m j i (Var i) (Var 0) low in
            let right = under-low replaced p j i (Var i) (Var 0) (omega arith) in
            let item = get_or-map (λ u. sub_of u r p) s i (Var 0) (Var 0) low in
            rw (left, right, item) (composes_low i j low)
        | inr high ↦
            let left = under-high s m j i (Var i) high inside in
            let right = under-high replaced p j i (Var i) (omega arith) (omega arith) in
            let again = under-high r p j (m + (i - length s)) (Var (m + (i - length s))) (omega arith) (omega arith) in
            let e : m + (i - length s) - length r ≡ i - length s = omega arith in
            rw (left, right, long, sub-Var, again, e) refl
      ])

  composes_bounds : (bs : List Bound) (j : ℕ) → OfEachBody Composes bs → IsTrue (all_at_scope (length s + j) (map scoped_bound bs)) →
      sub_each (map sub_bound_of (sub_each (map sub_bound_of bs) (under s m j) (m + j))) (under r p j) (p + j)
      ≡ sub_each (map sub_bound_of bs) (under replaced p j) (p + j)
  composes_bounds [] j h scoped = refl
  composes_bounds (b ∷ bs) j h scoped =
      let in_both = body_scoped b bs (length s) j scoped in
      let e : m + j + b.binders ≡ m + (j + b.binders) = omega arith in
      let e' : p + j + b.binders ≡ p + (j + b.binders) = omega arith in
      let body = h.0 (j + b.binders) in_both.0 in
      let rest = composes_bounds bs j h.1 in_both.1 in
      let one = sub_bound-is b (under s m j) (m + j) in
      let two = sub_bound-is b (under replaced p j) (p + j) in
      let first : sub_bound_of (sub_bound_of b (under s m j) (m + j)) (under r p j) (p + j) ≡ sub_bound_of b (under replaced p j) (p + j) =
      rw (one, two, sub_bound-is, under-under s m j b.binders, under-under r p j b.binders, under-under replaced p j b.binders, e, e', body) refl in
      rw (first, rest) refl

  composes_op : (o : Sym) (ps : List Param) (bs : List Bound) → OfEachBody Composes bs → Composes (Op o ps bs)
  composes_op o ps bs h j scoped =
      let test = rw in_scope-Op at scoped in
      let inner = sub-Op (Op o ps bs) o ps bs (under s m j) (m + j) refl in
      let right = sub-Op (Op o ps bs) o ps bs (under replaced p j) (p + j) refl in
      let made : List Bound = sub_each (map sub_bound_of bs) (under s m j) (m + j) in
      let outer = sub-Op (Op o ps made) o ps made (under r p j) (p + j) refl in
      rw (inner, right, outer, composes_bounds bs j h test) refl

  pub sub_under-sub : (t : Term) (j : ℕ) → IsTrue (in_scope_of t (length s + j)) →
      sub_of (sub_of t (under s m j) (m + j)) (under r p j) (p + j) ≡ sub_of t (under replaced p j) (p + j)
  sub_under-sub = each_term Composes composes_var composes_op

pub sub-sub : (s r : List Term) (m p : ℕ) (t : Term) → length r ≡ m → AreInScope m s → IsTrue (in_scope_of t (length s)) →
    sub_of (sub_of t s m) r p ≡ sub_of t (map (λ u. sub_of u r p) s) p
sub-sub s r m p t count all scoped =
    let z : length s + 0 ≡ length s = omega arith in
    let z' : m + 0 ≡ m = omega arith in
    let z'' : p + 0 ≡ p = omega arith in
    rw (under-none, under-none, under-none, z', z'') at (sub_under-sub s r m p count all t 0 (rw z scoped))

-- the variables under binders are the variables of the wider scope
pub under-variables : (n k : ℕ) → under (variables 0 n) n k ≡ variables 0 (n + k)
under-variables n k =
    let e : 0 + n ≡ n = omega arith in
    let joined = rw e at (variables-append 0 n k) in
    rw (under-is, map-weak-variables n k 0 n (omega arith)) joined

-- to substitute the variables themselves changes nothing
abbrev IsSelf : Term → Type 0
IsSelf t = (n : ℕ) → IsTrue (in_scope_of t n) → sub_of t (variables 0 n) n ≡ t

self_var : (i : ℕ) → IsSelf (Var i)
self_var i n scoped =
    let test = rw in_scope-Var at scoped in
    let inside : i < n = grind (arith, nat_tests, test) in
    let e : 0 + i ≡ i = omega arith in
    rw (sub-Var, get_or-variables 0 n i (Var i) inside, e) refl

self_bounds : (bs : List Bound) (n : ℕ) → OfEachBody IsSelf bs → IsTrue (all_at_scope n (map scoped_bound bs)) → sub_each (map sub_bound_of bs) (variables 0 n) n ≡ bs
self_bounds [] n h scoped = refl
self_bounds (b ∷ bs) n h scoped =
    let first_scoped : IsTrue (scoped_bound b n) = grind (arith, common_steps) in
    let rest_scoped : IsTrue (all_at_scope n (map scoped_bound bs)) = grind (arith, common_steps) in
    let body = h.0 (n + b.binders) (rw scoped_bound-is at first_scoped) in
    let rest = self_bounds bs n h.1 rest_scoped in
    let first : sub_bound_of b (variables 0 n) n ≡ b = rw (sub_bound-is, under-variables, body) refl in
    rw (first, rest) refl

self_op : (o : Sym) (ps : List Param) (bs : List Bound) → OfEachBody IsSelf bs → IsSelf (Op o ps bs)
self_op o ps bs h n scoped =
    let test = rw in_scope-Op at scoped in
    rw (sub-Op (Op o ps bs) o ps bs (variables 0 n) n refl, self_bounds bs n h test) refl

pub sub-variables : (t : Term) (n : ℕ) → IsTrue (in_scope_of t n) → sub_of t (variables 0 n) n ≡ t
sub-variables = each_term IsSelf self_var self_op

-- to weaken is to substitute the variables themselves in the wider scope
pub weak-is_sub : (t : Term) (n k : ℕ) → IsTrue (in_scope_of t n) → weak n k t ≡ sub_of t (variables 0 n) (n + k)
weak-is_sub t n k scoped =
    let long = length-variables 0 n in
    let moved = weak-sub (variables 0 n) n k t (rw long scoped) in
    rw (sub-variables t n scoped, map-weak-variables n k 0 n (omega arith)) at moved
