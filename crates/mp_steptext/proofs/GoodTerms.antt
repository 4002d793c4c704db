-- A term without static faults is in its scope, has few binders, and isn't too deep.
use Rattle.std.proofs.Common.{◌≡◌, ℕ, zero, suc, ◌+◌, ◌<◌, ◌≤◌, ◌++◌, List, [], ◌∷◌, map, sum, length, length-append, Bool, true, false, nat_lt, nat_le, Option, None, Some, if◌then◌else◌, refl, ap, sym, subst, ◌∙◌, arith}
use Rattle.std.specs.Prelude.{unwrap_or}
use Rattle.std.proofs.lemmas.Bool.{and_from}
use Rattle.std.proofs.lemmas.Bool.Decides.{nat_tests}
use Rattle.std.proofs.lemmas.Grind.{common_steps}
use Rattle.std.proofs.lemmas.List.{length-map}
use Rattle.mp_logic.specs.declared.sym.Sym.{Sym}
use Rattle.mp_term.specs.declared.term.Term.{Term}
use Rattle.mp_term.specs.declared.term.Term as term
use Rattle.mp_term.specs.declared.term.Bound.{Bound}
use Rattle.mp_term.specs.Terms.{size_of, depth_of, in_scope_of, all_at_scope, all_true}
use Rattle.mp_logic.specs.Lists.{greatest}
use Rattle.mp_term.specs.Limits.{few_binders_of}
use Rattle.mp_term.proofs.Layers.{size_bound, size-Var, size-Op, size_bound-is, depth_bound, depth-Var, depth-Op, depth_bound-is, scoped_bound, in_scope-Var, in_scope-Op, scoped_bound-is, few_bound, few-Var, few-Op, few_bound-is}
use Rattle.mp_words.specs.declared.raw.RawName.{RawName}
use Rattle.mp_termtext.specs.declared.raw.RawParam.{RawParam}
use Rattle.mp_termtext.specs.declared.raw.RawBound.{RawBound}
use Rattle.mp_termtext.specs.declared.raw.RawTerm.{RawTerm, Var, Op}
use Rattle.mp_words.specs.Faults.{too_many}
use Rattle.mp_termtext.specs.Statics.{bound_faults_of, deep, each_faults, faults_of, free_level, level_by, level_of, names_of, place_in, raw_size_of, unless_bound}
use Rattle.mp_termtext.specs.Values.{bound_value_of, each_subterm_value, value_of}
use Rattle.mp_words.proofs.NoFaults.{nil_parts, not_many}
use Rattle.mp_termtext.proofs.Faultless.{not_deep, place_below}
use Rattle.mp_termtext.proofs.RawLayers.{faults-Var, faults-Op, bound_faults-is, value-Var, value-Op, bound_value-is, raw_size_bound, raw_size-Var, raw_size-Op, raw_size_bound-is}
use Rattle.mp_steptext.proofs.RawTermInduction.{OfEachBody, each_raw_term}

-- ## Levels

bound_level : (o : Option ℕ) (l : ℕ) → unless_bound l o ≡ [] → (i : ℕ) × (o ≡ Some i)
bound_level None l h = absurd cc
bound_level (Some i) l h = (i, refl)

free_below : (free i : ℕ) (k : Option ℕ) → free_level free k ≡ Some i → i < free
free_below free i None e = absurd cc
free_below free i (Some zero) e = absurd cc
free_below free i (Some (suc level)) e = by (nat_lt level free) refl e
  where
    by : (b : Bool) → nat_lt level free ≡ b → (if b then Some level else None) ≡ Some i → i < free
    by true lt is = let q : level ≡ i = cc in grind (arith, nat_tests, lt, q)
    by false lt is = absurd cc

level_below : (free n i : ℕ) (o k : Option ℕ) → ((j : ℕ) → o ≡ Some j → j < n) → level_by free o k ≡ Some i → i < free + n
level_below free n i None k h e = let lt = free_below free i k e in omega (arith, lt)
level_below free n i (Some j) k h e = let lt = h j refl in let q : free + j ≡ i = cc in omega (arith, lt, q)

-- ## Terms

-- in this scope, with few binders, of this size, and at a depth from which it isn't too deep
pub record Fits (t : Term) (scope d n : ℕ) : Type 0 where
  pub scoped : in_scope_of t scope ≡ true
  pub few : few_binders_of t ≡ true
  pub depth : depth_of t + d ≤ 201
  pub size : size_of t ≡ n

-- the same of the bodies of an operator
record BodiesFit (bs : List Bound) (scope d n : ℕ) : Type 0 where
  scoped : all_at_scope scope (map scoped_bound bs) ≡ true
  few : all_true (map few_bound bs) ≡ true
  depth : greatest (map depth_bound bs) + d ≤ 201
  size : sum (map size_bound bs) ≡ n

abbrev pub HasFits : ℕ → RawTerm → Type 0
HasFits free t = (env : List Sym) (d : ℕ) → faults_of free t env d ≡ [] → Fits (value_of free t env) (free + length env) d (raw_size_of t)

lt_true : (m n : ℕ) → m < n → nat_lt m n ≡ true
lt_true m n h = grind (arith, nat_tests, h)

le_true : (m n : ℕ) → m ≤ n → nat_le m n ≡ true
le_true m n h = grind (arith, nat_tests, h)

both_sums : (x y : ℕ) (xs ys : List ℕ) → x ≡ y → sum xs ≡ sum ys → sum (x ∷ xs) ≡ sum (y ∷ ys)
both_sums x y xs ys e f = sum_cons x xs ∙ (λ i. e i + f i) ∙ sym (sum_cons y ys)
  where
    sum_cons : (x : ℕ) (xs : List ℕ) → sum (x ∷ xs) ≡ x + sum xs
    sum_cons x xs = grind (arith, common_steps)

module _ (free : ℕ) where
  var_fits : (n : Sym) (k : Option ℕ) (l : ℕ) → HasFits free (Var n k l)
  var_fits n k l env d h =
      let parts = nil_parts (deep d l) (unless_bound l (level_of free env n k)) (sym (faults-Var free n k l env d) ∙ h) in
      let shallow = not_deep d l parts.0 in
      let (i, is) = bound_level (level_of free env n k) l parts.1 in
      let lt = level_below free (length env) i (place_in env n) k (place_below env n) is in
      let value : value_of free (Var n k l) env ≡ term.Var i = value-Var free n k l env ∙ ap (λ o. term.Var (unwrap_or o 0)) is in
      let one = depth-Var i in
      let fits : Fits (term.Var i) (free + length env) d (raw_size_of (Var n k l)) = record {
        scoped = in_scope-Var i (free + length env) ∙ lt_true i (free + length env) lt;
        few = few-Var i;
        depth = omega (arith, one, shallow);
        size = size-Var i ∙ sym (raw_size-Var n k l);
      } in
      subst (λ t. Fits t (free + length env) d (raw_size_of (Var n k l))) (sym value) fits

  module _ (k : RawBound) (env : List Sym) (d : ℕ) (h : bound_faults_of free k env d ≡ []) where
    abbrev pub inner : List Sym
    inner = env ++ names_of k.binders

    parts : (too_many (λ b. b.at) 8 k.binders ≡ []) × (faults_of free k.body inner d ≡ [])
    parts = nil_parts (too_many (λ b. b.at) 8 k.binders) (faults_of free k.body inner d) (sym (bound_faults-is free k env d) ∙ h)

    pub binders_few : length k.binders ≤ 8
    binders_few = not_many (λ (b : RawName). b.at) 8 k.binders parts.0

    pub body_faultless : faults_of free k.body inner d ≡ []
    body_faultless = parts.1

    pub inner_scope : free + length env + length k.binders ≡ free + length inner
    inner_scope = let a = length-append env (names_of k.binders) in let m = length-map k.binders (λ b. b.name) in omega (arith, a, m)

  bodies_fit : (ks : List RawBound) → OfEachBody (HasFits free) ks → (env : List Sym) (d : ℕ) → d ≤ 201 → each_faults (map (bound_faults_of free) ks) env d ≡ []
      → BodiesFit (each_subterm_value (map (bound_value_of free) ks) env) (free + length env) d (sum (map raw_size_bound ks))
  bodies_fit [] ih env d few h = record { scoped = refl; few = refl; depth = omega (arith, few); size = refl }
  bodies_fit (k ∷ ks) ih env d few h =
      let both = nil_parts (bound_faults_of free k env d) (each_faults (map (bound_faults_of free) ks) env d) h in
      let here = ih.0 (env ++ names_of k.binders) d (body_faultless k env d both.0) in
      let rest = bodies_fit ks ih.1 env d few both.1 in
      let is = bound_value-is free k env in
      let b : Bound = record { binders = length k.binders; body = value_of free k.body (env ++ names_of k.binders) } in
      let deep_here = here.depth in let deep_rest = rest.depth in
      let same : depth_bound (bound_value_of free k env) ≡ depth_of b.body = ap depth_bound is ∙ depth_bound-is b in
      let size_here : size_bound (bound_value_of free k env) ≡ raw_size_bound k = ap size_bound is ∙ size_bound-is b ∙ here.size ∙ sym (raw_size_bound-is k) in
      record {
        scoped = and_from _ _ (ap (λ c. scoped_bound c (free + length env)) is ∙ scoped_bound-is b (free + length env) ∙ ap (in_scope_of b.body) (inner_scope k env d both.0) ∙ here.scoped) rest.scoped;
        few = and_from _ _ (ap few_bound is ∙ few_bound-is b ∙ and_from _ _ (le_true (length k.binders) 8 (binders_few k env d both.0)) here.few) rest.few;
        depth = omega (arith, deep_here, deep_rest, same);
        size = both_sums _ _ (map size_bound (each_subterm_value (map (bound_value_of free) ks) env)) (map raw_size_bound ks) size_here rest.size;
      }

  op_fits : (n : Sym) (ps : List RawParam) (ks : List RawBound) (l : ℕ) → OfEachBody (HasFits free) ks → HasFits free (Op n ps ks l)
  op_fits n ps ks l ih env d h =
      let subs_faults = each_faults (map (bound_faults_of free) ks) env (d + 1) in
      let parts = nil_parts (deep d l ++ too_many (λ p. p.at) 16 ps) subs_faults (sym (faults-Op free n ps ks l env d) ∙ h) in
      let shallow = not_deep d l (nil_parts (deep d l) (too_many (λ p. p.at) 16 ps) parts.0).0 in
      let all = bodies_fit ks ih env (d + 1) (omega (arith, shallow)) parts.1 in
      let values = map (λ (p : RawParam). p.value) ps in
      let subs = each_subterm_value (map (bound_value_of free) ks) env in
      let deepest = all.depth in
      let one = depth-Op n values subs in
      let fits : Fits (term.Op n values subs) (free + length env) d (raw_size_of (Op n ps ks l)) = record {
        scoped = in_scope-Op n values subs (free + length env) ∙ all.scoped;
        few = few-Op n values subs ∙ all.few;
        depth = omega (arith, one, deepest);
        size = size-Op n values subs ∙ ap (λ m. 1 + m) all.size ∙ sym (raw_size-Op n ps ks l);
      } in
      subst (λ t. Fits t (free + length env) d (raw_size_of (Op n ps ks l))) (sym (value-Op free n ps ks l env)) fits

  -- a term without faults fits
  pub term_fits : (t : RawTerm) → HasFits free t
  term_fits = each_raw_term (HasFits free) var_fits op_fits
