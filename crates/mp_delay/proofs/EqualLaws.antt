-- The equality of moved terms as a test, one layer at a time.
use Rattle.std.proofs.Common.{◌≡◌, ◌≢◌, ℕ, ◌+◌, ◌<◌, ◌≤◌, List, [], ◌∷◌, map, length, get_or, drop, Bool, true, false, ◌&&◌, nat_eq, refl, sym, inl, inr, ◌↔◌, IsTrue, ◌∙◌, arith}
use Rattle.std.proofs.lemmas.Bool.Decides.{nat_tests}
use Rattle.std.proofs.lemmas.List.{drop_all}
use Rattle.mp_logic.specs.declared.sym.Sym.{Sym}
use Rattle.mp_term.specs.declared.term.Param.{Param}
use Rattle.mp_term.specs.declared.term.Term.{Term, Var, Op}
use Rattle.mp_term.specs.declared.term.Bound.{Bound}
use Rattle.mp_term.specs.Equality.{same_term, same_bound, same_params, each_passes}
use Rattle.mp_term.proofs.Layers.{out-Var, out-Op, same-Var, same-Op, same_bound-is}
use Rattle.mp_term.proofs.EqualTerms.{decided, both_true, and_true, same_name-refl, term-same, term-refl}
use Rattle.mp_term.proofs.SubLaws.{drop-at}
use Rattle.mp_delay.specs.Moves.{relevel_by, relevel_bound}
use Rattle.mp_delay.proofs.Layers.{relevel-Var, relevel-Op, relevel_bound-is}

-- lists of parameters are equal where operators with these alone are
params-same : (o : Sym) (ps qs : List Param) → same_params ps qs ≡ true → ps ≡ qs
params-same o ps qs is =
    let test : same_term (Op o ps []) (Op o qs []) ≡ true = rw (same-Op, out-Op) (and_true (nat_eq o.0 o.0 && same_params ps qs) true (and_true (nat_eq o.0 o.0) (same_params ps qs) (same_name-refl o) is) refl) in
    let same : Op o ps [] ≡ Op o qs [] = term-same (Op o ps []) (Op o qs []) test in
    cc

params-refl : (o : Sym) (ps : List Param) → same_params ps ps ≡ true
params-refl o ps =
    let test = rw (same-Op, out-Op) at (term-refl (Op o ps [])) in
    (both_true (nat_eq o.0 o.0) (same_params ps ps) (both_true (nat_eq o.0 o.0 && same_params ps ps) true test).0).1

-- an answer to whether lists of parameters are equal is the test's
pub params-tested : (o : Sym) (r : Bool) (ps qs : List Param) → (IsTrue r ↔ (ps ≡ qs)) → r ≡ same_params ps qs
params-tested o true ps qs h = let e = h.0 refl in sym (rw e (params-refl o qs))
params-tested o false ps qs h = elim (decided (same_params ps qs)) [
  | inl yes' ↦ absurd (let k = h.1 (params-same o ps qs yes') in cc)
  | inr no' ↦ sym no'
]

-- the test's answer tells whether terms are equal
pub term-tells : (r : Bool) (a b : Term) → r ≡ same_term a b → IsTrue r ↔ (a ≡ b)
term-tells true a b is = (λ _. term-same a b (sym is), λ _. refl)
term-tells false a b is = (λ h. absurd (cc), λ e. let itself = term-refl b in let test = rw e at is in absurd (cc))

-- a test that fails tells that what can't be isn't
pub none-tells : (r : Bool) (a b : Term) → r ≡ false → (a ≡ b → ⊥) → IsTrue r ↔ (a ≡ b)
none-tells r a b is never = (λ h. absurd (cc), λ e. absurd (never e))

and-false : (a b : Bool) → b ≡ false → (a && b) ≡ false
and-false true b is = is
and-false false b is = refl

and-none : (a b c : Bool) → b ≡ false → ((a && b) && c) ≡ false
and-none true b c is = rw is refl
and-none false b c is = refl

module _ (f g : ℕ → ℕ) where
  -- whether bodies are equal once they are moved
  abbrev pub same_bodies : List Bound → List Bound → Bool
  same_bodies bs xs = each_passes (map same_bound (map (relevel_bound f) bs)) (map (relevel_bound g) xs)

  pub same-vars : (x y : ℕ) → same_term (relevel_by f (Var x)) (relevel_by g (Var y)) ≡ nat_eq (f x) (g y)
  same-vars x y = rw (relevel-Var f x, relevel-Var g y, same-Var, out-Var) refl

  pub same-ops : (o p : Sym) (ps qs : List Param) (bs xs : List Bound) →
      same_term (relevel_by f (Op o ps bs)) (relevel_by g (Op p qs xs)) ≡ ((nat_eq o.0 p.0 && same_params ps qs) && same_bodies bs xs)
  same-ops o p ps qs bs xs = rw (relevel-Op f o ps bs, relevel-Op g p qs xs, same-Op, out-Op) refl

  pub same-var_op : (x : ℕ) (p : Sym) (qs : List Param) (xs : List Bound) → same_term (relevel_by f (Var x)) (relevel_by g (Op p qs xs)) ≡ false
  same-var_op x p qs xs = rw (relevel-Var f x, relevel-Op g p qs xs, same-Var, out-Op) refl

  pub same-op_var : (o : Sym) (ps : List Param) (bs : List Bound) (y : ℕ) → same_term (relevel_by f (Op o ps bs)) (relevel_by g (Var y)) ≡ false
  same-op_var o ps bs y = rw (relevel-Op f o ps bs, relevel-Var g y, same-Op, out-Var) refl

  -- the test of two bodies, and then that of those behind them
  abbrev pub same_first : Bound → Bound → Bool
  same_first b x = nat_eq b.binders x.binders && same_term (relevel_by f b.body) (relevel_by g x.body)

  same_bodies-cons : (b x : Bound) (bs xs : List Bound) → same_bodies (b ∷ bs) (x ∷ xs) ≡ (same_first b x && same_bodies bs xs)
  same_bodies-cons b x bs xs = rw (relevel_bound-is f b, relevel_bound-is g x, same_bound-is) refl

  pub same_bodies-length : (bs xs : List Bound) → length bs ≢ length xs → same_bodies bs xs ≡ false
  same_bodies-length [] [] other = absurd (omega arith)
  same_bodies-length [] (x ∷ xs) other = refl
  same_bodies-length (b ∷ bs) [] other = refl
  same_bodies-length (b ∷ bs) (x ∷ xs) other =
      same_bodies-cons b x bs xs ∙ and-false (same_first b x) (same_bodies bs xs) (same_bodies-length bs xs (omega arith))

  pub same_bodies-at : (bs xs : List Bound) (i : ℕ) (b x : Bound) → i < length bs → length bs ≡ length xs → b ≡ get_or bs i b → x ≡ get_or xs i x →
      same_bodies (drop i bs) (drop i xs) ≡ (same_first b x && same_bodies (drop (i + 1) bs) (drop (i + 1) xs))
  same_bodies-at bs xs i b x inside same_length is-b is-x =
      let left = drop-at bs i b inside is-b in
      let right = drop-at xs i x (omega (arith, inside, same_length)) is-x in
      rw (left, right) (same_bodies-cons b x (drop (i + 1) bs) (drop (i + 1) xs))

  -- operators differ if their names, their parameters or the numbers of their bodies do, or a body
  module _ (o p : Sym) (ps qs : List Param) (bs xs : List Bound) where
    abbrev are_same : Bool
    are_same = same_term (relevel_by f (Op o ps bs)) (relevel_by g (Op p qs xs))

    pub apart_by_name : o.0 ≢ p.0 → are_same ≡ false
    apart_by_name other = let test : nat_eq o.0 p.0 ≡ false = grind (arith, nat_tests, other) in rw (same-ops o p ps qs bs xs, test) refl

    pub apart_by_params : (r : Bool) → (IsTrue r ↔ (ps ≡ qs)) → r ≡ false → are_same ≡ false
    apart_by_params r tells not' =
        let test : same_params ps qs ≡ false = sym (params-tested o r ps qs tells) ∙ not' in
        same-ops o p ps qs bs xs ∙ and-none (nat_eq o.0 p.0) (same_params ps qs) (same_bodies bs xs) test

    pub apart_by_bodies : same_bodies bs xs ≡ false → are_same ≡ false
    apart_by_bodies test = same-ops o p ps qs bs xs ∙ and-false (nat_eq o.0 p.0 && same_params ps qs) (same_bodies bs xs) test

    pub alike : (r : Bool) → o.0 ≡ p.0 → (IsTrue r ↔ (ps ≡ qs)) → r ≡ true → same_bodies bs xs ≡ true → are_same ≡ true
    alike r name tells params bodies =
        let first : nat_eq o.0 p.0 ≡ true = grind (arith, nat_tests, name) in
        let second : same_params ps qs ≡ true = sym (params-tested o r ps qs tells) ∙ params in
        rw (same-ops o p ps qs bs xs, first, second, bodies) refl

  -- what the test of the bodies at one place tells of all of them
  module _ (bs xs : List Bound) (i : ℕ) (b x : Bound) (inside : i < length bs) (as_many : length bs ≡ length xs) (is-b : b ≡ get_or bs i b) (is-x : x ≡ get_or xs i x)
      (so_far : same_bodies (drop i bs) (drop i xs) ≡ same_bodies bs xs) where
    pub binders_differ : b.binders ≢ x.binders → same_bodies bs xs ≡ false
    binders_differ other =
        let test : nat_eq b.binders x.binders ≡ false = grind (arith, nat_tests, other) in
        sym so_far ∙ same_bodies-at bs xs i b x inside as_many is-b is-x ∙ rw test refl

    pub terms_differ : (r : Bool) → r ≡ same_term (relevel_by f b.body) (relevel_by g x.body) → r ≡ false → same_bodies bs xs ≡ false
    terms_differ r is not' =
        let test : same_term (relevel_by f b.body) (relevel_by g x.body) ≡ false = sym is ∙ not' in
        sym so_far ∙ same_bodies-at bs xs i b x inside as_many is-b is-x ∙
        and-none (nat_eq b.binders x.binders) (same_term (relevel_by f b.body) (relevel_by g x.body)) (same_bodies (drop (i + 1) bs) (drop (i + 1) xs)) test

    pub both_same : (r : Bool) → b.binders ≡ x.binders → r ≡ same_term (relevel_by f b.body) (relevel_by g x.body) → r ≡ true →
        same_bodies (drop (i + 1) bs) (drop (i + 1) xs) ≡ same_bodies bs xs
    both_same r binders is yes' =
        let first : nat_eq b.binders x.binders ≡ true = grind (arith, nat_tests, binders) in
        let second : same_term (relevel_by f b.body) (relevel_by g x.body) ≡ true = sym is ∙ yes' in
        let e = same_bodies-at bs xs i b x inside as_many is-b is-x in
        rw (first, second) at (sym e) ∙ so_far

  pub all_same : (bs xs : List Bound) (i : ℕ) → length bs ≤ i → length bs ≡ length xs → same_bodies (drop i bs) (drop i xs) ≡ same_bodies bs xs → same_bodies bs xs ≡ true
  all_same bs xs i past as_many so_far = sym so_far ∙ rw (drop_all i bs past, drop_all i xs (omega (arith, past, as_many))) refl
