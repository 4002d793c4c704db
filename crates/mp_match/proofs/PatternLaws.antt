-- What matching a pattern finds are the values that make it the term.
use Rattle.std.proofs.Common.{◌≡◌, ℕ, ◌+◌, ◌-◌, ◌<◌, List, [], ◌∷◌, ◌++◌, length, map, get_or, true, IsTrue, All, Option, Some, None, nat_eq, if◌then◌else◌, option_and_then, inl, inr, append-nil, append_assoc, refl, sym, ap, ◌∙◌, arith}
use Rattle.std.specs.List.{IsDistinct, list_all}
use Rattle.std.proofs.lemmas.Bool.Decides.{nat_tests}
use Rattle.std.proofs.lemmas.List.{map-append, length-map, length-append, get_or-map}
use Rattle.mp_logic.specs.declared.sym.Sym.{Sym}
use Rattle.mp_term.specs.declared.term.Param.{Param}
use Rattle.mp_term.specs.declared.term.Term.{Term, Var, Op, out-Term}
use Rattle.mp_term.specs.declared.term.Bound.{Bound}
use Rattle.mp_term.specs.Terms.{in_scope_of, all_at_scope}
use Rattle.mp_term.proofs.Layers.{in_scope-Op, scoped_bound, scoped_bound-is, out-Var, out-Op, same-Var, variant}
use Rattle.mp_term.specs.Subst.{sub_of, variables, unrenamed, upto}
use Rattle.mp_schema.specs.declared.instance.MetaVal.{MetaVal}
use Rattle.mp_schema.specs.declared.pattern.ParamPat.{ParamPat}
use Rattle.mp_schema.specs.declared.pattern.ParamPat.TheVariants.{Lit, Hole}
use Rattle.mp_schema.specs.declared.pattern.Pattern.{Pattern}
use Rattle.mp_schema.specs.declared.pattern.Pattern as pat
use Rattle.mp_schema.specs.declared.pattern.PBound.{PBound}
use Rattle.mp_schema.specs.Induction.{OfEachBody, OfEachArg, each_pattern}
use Rattle.mp_schema.specs.Instances.{Values, Ground, Wide, made_each, param_of, inst_of, inst_bound, all_pass, fits, fits_bound}
use Rattle.mp_schema.specs.Conditions.{Seen, seen, seen_bound, all_variables, all_fine, args_fine, is_known, lists_known, lists_known_bound, argument}
use Rattle.mp_schema.specs.Values.{find_meta, find_param}
use Rattle.mp_schema.proofs.Layers.{inst-Var, inst-Op, inst-Meta, inst_bound-is, fits-Var, fits-Op, fits-Meta, fits_bound-is, fine-Var, fine-Op, fine-Meta, fine_bound-is, lists_known-Op, lists_known-Meta, lists_known_bound-is}
use Rattle.mp_match.specs.declared.place.Found.{Found}
use Rattle.mp_term.specs.Equality.{same_param, same_term, is_level}
use Rattle.mp_match.specs.Matching.{hole_found, param_found, params_found, value_found, meta_found, matcher_bound, all_found, found_in}
use Rattle.mp_term.proofs.EqualTerms.{both_true, and_true, decided, same_name, param-same, param-refl, term-same, term-refl}
use Rattle.mp_schema.proofs.Fitting.{meta_fits, all_fit-told}
use Rattle.mp_schema.proofs.OnePattern.{args-made, op-subs}
use Rattle.mp_match.proofs.Layers.{finds-Var, finds-Op, finds_bound-is}
use Rattle.mp_match.proofs.Known.{found-Meta}
use Rattle.mp_term.proofs.Ranges.{map-Var-upto, length-upto}
use Rattle.mp_schema.proofs.Apart.{Apart, Below, Apart-to, Below-to, Apart-append, Below-append, Below-more, Apart-upto, Below-upto, Below-Differ-upto}
use Rattle.mp_schema.proofs.Arguments.{arguments-distinct, arguments-below, fine-variables}
use Rattle.mp_match.proofs.Steps.{undone, restored}
use Rattle.mp_match.proofs.Solving.{Solves, Solves-none, Solves-same, Solves-test, Solves-as, Solves-then, hole_new, meta_new}

-- ## Parameters

hole-solved : (name : Sym) (p : Param) (old : Found) (o : Option Param) → find_param old.params name ≡ o → Solves (λ v. v.param name ≡ p) old (hole_found name p old o)
hole-solved name p old None e = hole_new old (record { name = name; value = p }) e
hole-solved name p old (Some q) e = Solves-test (λ v. v.param name ≡ p) old (same_param q p)
    (λ same v m. m.params name q e ∙ param-same q p same)
    (λ v m is. let k : q ≡ p = sym (m.params name q e) ∙ is in rw k (param-refl p))

param-solved : (q : ParamPat) (p : Param) (old : Found) → Solves (λ v. param_of v q ≡ p) old (param_found q p old)
param-solved (Lit q) p old = Solves-test (λ v. q ≡ p) old (same_param q p) (λ same v m. param-same q p same) (λ v m is. rw is (param-refl p))
param-solved (Hole name) p old = hole-solved name p old (find_param old.params name) refl

params-solved : (qs : List ParamPat) (ps : List Param) (old : Found) → Solves (λ v. map (param_of v) qs ≡ ps) old (params_found qs ps old)
params-solved [] [] old = Solves-same (λ v. map (param_of v) [] ≡ []) old (λ v m. refl)
params-solved [] (p ∷ ps) old = Solves-none (λ v. map (param_of v) [] ≡ p ∷ ps) old (λ v e. absurd (cc))
params-solved (q ∷ qs) [] old = Solves-none (λ v. map (param_of v) (q ∷ qs) ≡ []) old (λ v e. absurd (cc))
params-solved (q ∷ qs) (p ∷ ps) old =
    Solves-as (λ v. (param_of v q ≡ p) × (map (param_of v) qs ≡ ps)) (λ v. map (param_of v) (q ∷ qs) ≡ p ∷ ps) old (params_found (q ∷ qs) (p ∷ ps) old)
    (λ v h. rw (h.0, h.1) refl) (λ v e. (cc, cc))
    (Solves-then (λ v. param_of v q ≡ p) (λ v. map (param_of v) qs ≡ ps) old (param_found q p old) (params_found qs ps) (param-solved q p old)
    (λ f. params-solved qs ps f))

-- ## Second-order variables

value-solved : (name : Sym) (width : ℕ) (u : Term) (old : Found) (o : Option MetaVal) → find_meta old.metas name ≡ o →
    Solves (λ v. v.meta name ≡ u) old (value_found name width old o u)
value-solved name width u old None e = meta_new old (record { name = name; scope = width; body = u }) e
value-solved name width u old (Some x) e = Solves-test (λ v. v.meta name ≡ u) old (same_term x.body u)
    (λ same v m. m.metas name x e ∙ term-same x.body u same)
    (λ v m is. let k : x.body ≡ u = sym (m.metas name x e) ∙ is in rw k (term-refl u))

module _ (name : Sym) (levels : List ℕ) (m : ℕ) (t : Term) (distinct : IsDistinct nat_eq levels) (below : All (λ l. l < m) levels) (scoped : IsTrue (in_scope_of t m)) where
  -- the value gives the term
  abbrev pub Gives : Values → Type 0
  Gives v = IsTrue (in_scope_of (v.meta name) (length levels)) × (sub_of (v.meta name) (map Var levels) m ≡ t)

  renamed-solved : (old : Found) (o : Option Term) → unrenamed levels m t ≡ o →
      Solves Gives old (option_and_then (value_found name (length levels) old (find_meta old.metas name)) o)
  renamed-solved old None e = Solves-none Gives old (λ v h. absurd (let k = undone levels m t distinct below scoped (v.meta name) h.0 h.1 in cc))
  renamed-solved old (Some u) e =
      let gives = restored levels m t distinct below scoped u e in
      Solves-as (λ v. v.meta name ≡ u) Gives old (value_found name (length levels) old (find_meta old.metas name) u)
      (λ v is. (rw is gives.1, rw is gives.0))
      (λ v h. let k = undone levels m t distinct below scoped (v.meta name) h.0 h.1 in cc)
      (value-solved name (length levels) u old (find_meta old.metas name) refl)

  pub meta-solved : (old : Found) → Solves Gives old (meta_found name levels m t old)
  meta-solved old = renamed-solved old (unrenamed levels m t) refl

-- ## Variables

level-tested : (l : ℕ) (t : Term) → is_level l (out-Term t) ≡ true → Var l ≡ t
level-tested l t h = term-same (Var l) t (same-Var l t ∙ h)

level-same : (l : ℕ) (t : Term) → Var l ≡ t → is_level l (out-Term t) ≡ true
level-same l t e = sym (same-Var l t) ∙ rw (sym e) (term-refl (Var l))

-- ## Arguments

-- values fit arguments that are variables
pub args-fit : (w : Wide) (v : Values) (levels : List ℕ) (args : List Pattern) → all_variables (length levels) (map seen args) ≡ true → all_pass (map (fits w v) args) ≡ true
args-fit w v levels args h = all_fit-told w v args ∙ ap (list_all (meta_fits w v)) (args-made (λ cs. []) v levels 0 args h).1

-- ## Patterns

-- each list of known contexts has distinct variables, which are no levels of the pattern
pub record Usable (g : Ground) (known : List Sym) (levels : List ℕ) (m : ℕ) : Type 0 where
  pub distinct : (names : List Sym) → IsTrue (is_known known names) → Apart (g names ++ levels)
  pub below : (names : List Sym) → IsTrue (is_known known names) → Below m (g names ++ levels)

pub Usable-under : (g : Ground) (known : List Sym) (levels : List ℕ) (m k : ℕ) → Usable g known levels m → Usable g known (levels ++ upto m k) (m + k)
Usable-under g known levels m k u = record {
  distinct = λ names h. rw (← append_assoc (g names) levels (upto m k))
      (Apart-append (g names ++ levels) (upto m k) (u.distinct names h) (Apart-upto m k) (Below-Differ-upto m k (g names ++ levels) (u.below names h)));
  below = λ names h. rw (← append_assoc (g names) levels (upto m k))
      (Below-append (g names ++ levels) (upto m k) (m + k) (Below-more m (m + k) (g names ++ levels) (omega arith) (u.below names h)) (Below-upto m k));
}

module _ (g : Ground) (known : List Sym) where
  abbrev width : List Sym → ℕ
  width names = length (g names)

  -- what the equation of a pattern asks of values
  abbrev pub Asks : Pattern → List ℕ → ℕ → Term → Values → Type 0
  Asks p levels m t v = IsTrue (fits (λ names. length (g names)) v p) × (inst_of g v p (map Var levels) m ≡ t)

  abbrev IsSolved : Pattern → Type 0
  IsSolved p = (levels : List ℕ) (m : ℕ) (t : Term) (old : Found) → (seen p).fine (length levels) ≡ true → lists_known known p ≡ true → Usable g known levels m →
      in_scope_of t m ≡ true → Solves (Asks p levels m t) old (found_in g p levels m t old)

  solved_var : (l : ℕ) → IsSolved (pat.Var l)
  solved_var l levels m t old fine lists usable scoped =
      rw (finds-Var) (Solves-test (Asks (pat.Var l) levels m t) old (is_level (get_or levels l l) (out-Term t))
      (λ same v _. (fits-Var width v l, value v ∙ level-tested (get_or levels l l) t same))
      (λ v _ h. level-same (get_or levels l l) t (sym (value v) ∙ h.1)))
    where
      inside : l < length levels
      inside = let k = rw fine-Var at fine in grind (arith, nat_tests, k)

      value : (v : Values) → inst_of g v (pat.Var l) (map Var levels) m ≡ Var (get_or levels l l)
      value v = inst-Var g v l (map Var levels) m ∙ get_or-map Var levels l l (Var l) inside

  solved_meta : (n : Sym) (cs : List Sym) (args : List Pattern) → OfEachArg IsSolved args → IsSolved (pat.Meta n cs args)
  solved_meta n cs args _ levels m t old fine lists usable scoped =
      rw found-Meta (Solves-as (Gives n all m t distinct below scoped) (Asks (pat.Meta n cs args) levels m t) old (meta_found n all m t old)
      (λ v h. (fit_whole v h.0, opened v ∙ h.1)) (λ v h. (fit_value v h.0, sym (opened v) ∙ h.1)) (meta-solved n all m t distinct below scoped old))
    where
      arguments : List ℕ
      arguments = map (λ (a : Seen). argument levels a.level) (map seen args)

      all : List ℕ
      all = g cs ++ arguments

      args-are-fine : args_fine (length levels) (map seen args) ≡ true
      args-are-fine = rw fine-Meta at fine

      variables' : all_variables (length levels) (map seen args) ≡ true
      variables' = fine-variables (length levels) (map seen args) args-are-fine

      is-known : IsTrue (is_known known cs)
      is-known = (both_true (is_known known cs) (all_pass (map (lists_known known) args)) (rw lists_known-Meta at lists)).0

      none : m - m ≡ 0
      none = omega arith

      no_binders : args_fine (length levels + (m - m)) (map seen args) ≡ true
      no_binders = let e : length levels + (m - m) ≡ length levels = omega arith in rw e args-are-fine

      distinct : IsDistinct nat_eq all
      distinct = rw (none, append-nil levels) at (arguments-distinct (g cs) levels m m (map seen args) (omega arith) (Apart-to (g cs ++ levels) (usable.distinct cs is-known))
          (Below-to m (g cs ++ levels) (usable.below cs is-known)) no_binders)

      below : All (λ l. l < m) all
      below = rw (none, append-nil levels) at (arguments-below (g cs) levels m m (map seen args) (omega arith) (Apart-to (g cs ++ levels) (usable.distinct cs is-known))
          (Below-to m (g cs ++ levels) (usable.below cs is-known)) no_binders)

      long : length all ≡ length (g cs) + length args
      long = length-append (g cs) arguments ∙ ap (λ k. length (g cs) + k) (length-map (map seen args) (λ (a : Seen). argument levels a.level) ∙ length-map args seen)

      opened : (v : Values) → inst_of g v (pat.Meta n cs args) (map Var levels) m ≡ sub_of (v.meta n) (map Var all) m
      opened v = rw (inst-Meta, (args-made g v levels m args variables').0, map-append Var (g cs) arguments) refl

      fit_value : (v : Values) → IsTrue (fits width v (pat.Meta n cs args)) → IsTrue (in_scope_of (v.meta n) (length all))
      fit_value v h =
          let k = both_true (in_scope_of (v.meta n) (length (g cs) + length args)) (all_pass (map (fits width v) args)) (rw fits-Meta at h) in
          rw long k.0

      fit_whole : (v : Values) → IsTrue (in_scope_of (v.meta n) (length all)) → IsTrue (fits width v (pat.Meta n cs args))
      fit_whole v h = rw fits-Meta (and_true (in_scope_of (v.meta n) (length (g cs) + length args)) (all_pass (map (fits width v) args))
          (rw long at h) (args-fit width v levels args variables'))

  -- a body
  abbrev AsksBound : PBound → List ℕ → ℕ → Bound → Values → Type 0
  AsksBound b levels m x v = IsTrue (fits_bound width v b) × (inst_bound g v b (map Var levels) m ≡ x)

  under : (levels : List ℕ) (m k : ℕ) → map Var (levels ++ upto m k) ≡ map Var levels ++ variables m k
  under levels m k = map-append Var levels (upto m k) ∙ ap (λ xs. map Var levels ++ xs) (map-Var-upto m k)

  bound_from : (k : ℕ) (u : Term) (x : Bound) → k ≡ x.binders → u ≡ x.body → ◌≡◌ {A = Bound} (record { binders = k; body = u }) x
  bound_from k u x p q = rw (p, q) refl

  solved_bound : (b : PBound) (x : Bound) (levels : List ℕ) (m : ℕ) (old : Found) → IsSolved b.body → (seen_bound b).fine (length levels) ≡ true →
      lists_known_bound known b ≡ true → Usable g known levels m → scoped_bound x m ≡ true → Solves (AsksBound b levels m x) old ((matcher_bound g b).finds levels m x old)
  solved_bound b x levels m old ih fine lists usable scoped = rw finds_bound-is (elim (decided (nat_eq b.binders x.binders)) [
    | inl same ↦ rw same (same_binders (grind (arith, nat_tests, same)))
    | inr other ↦ rw other (Solves-none (AsksBound b levels m x) old (λ v h.
        let k : b.binders ≡ x.binders = ap (λ (y : Bound). y.binders) (sym (inst_bound-is g v b (map Var levels) m) ∙ h.1) in
        absurd (grind (arith, nat_tests, other, k))))
  ]) where
    made : (v : Values) → inst_bound g v b (map Var levels) m
        ≡ record { binders = b.binders; body = inst_of g v b.body (map Var (levels ++ upto m b.binders)) (m + b.binders) }
    made v = rw (under levels m b.binders) (inst_bound-is g v b (map Var levels) m)

    same_binders : b.binders ≡ x.binders → Solves (AsksBound b levels m x) old (found_in g b.body (levels ++ upto m b.binders) (m + b.binders) x.body old)
    same_binders e =
        let long : length (levels ++ upto m b.binders) ≡ length levels + b.binders
        = length-append levels (upto m b.binders) ∙ ap (λ k. length levels + k) (length-upto m b.binders) in
        let fine' : (seen b.body).fine (length (levels ++ upto m b.binders)) ≡ true = rw long (rw fine_bound-is at fine) in
        let lists' : lists_known known b.body ≡ true = rw lists_known_bound-is at lists in
        let scoped' : in_scope_of x.body (m + b.binders) ≡ true = rw e (rw scoped_bound-is at scoped) in
        Solves-as (Asks b.body (levels ++ upto m b.binders) (m + b.binders) x.body) (AsksBound b levels m x) old
        (found_in g b.body (levels ++ upto m b.binders) (m + b.binders) x.body old)
        (λ v h. (rw fits_bound-is h.0, made v ∙ bound_from _ _ x e h.1))
        (λ v h. (rw fits_bound-is at h.0, ap (λ (y : Bound). y.body) (sym (made v) ∙ h.1)))
        (ih (levels ++ upto m b.binders) (m + b.binders) x.body old fine' lists' (Usable-under g known levels m b.binders usable) scoped')

  -- the bodies
  abbrev AsksEach : List PBound → List ℕ → ℕ → List Bound → Values → Type 0
  AsksEach subs levels m xs v = IsTrue (all_pass (map (fits_bound width v) subs)) × (made_each (map (inst_bound g v) subs) (map Var levels) m ≡ xs)

  solved_subs : (subs : List PBound) (xs : List Bound) (levels : List ℕ) (m : ℕ) (old : Found) → OfEachBody IsSolved subs →
      all_fine (length levels) (map seen_bound subs) ≡ true → all_pass (map (lists_known_bound known) subs) ≡ true → Usable g known levels m →
      all_at_scope m (map scoped_bound xs) ≡ true → Solves (AsksEach subs levels m xs) old (all_found (map (matcher_bound g) subs) levels m xs old)
  solved_subs [] [] levels m old ih fine lists usable scoped = Solves-same (AsksEach [] levels m []) old (λ v _. (refl, refl))
  solved_subs [] (x ∷ xs) levels m old ih fine lists usable scoped = Solves-none (AsksEach [] levels m (x ∷ xs)) old (λ v h. let e = h.1 in absurd (cc))
  solved_subs (b ∷ subs) [] levels m old ih fine lists usable scoped = Solves-none (AsksEach (b ∷ subs) levels m []) old (λ v h. let e = h.1 in absurd (cc))
  solved_subs (b ∷ subs) (x ∷ xs) levels m old ih fine lists usable scoped =
      let f = both_true ((seen_bound b).fine (length levels)) (all_fine (length levels) (map seen_bound subs)) fine in
      let l = both_true (lists_known_bound known b) (all_pass (map (lists_known_bound known) subs)) lists in
      let s = both_true (scoped_bound x m) (all_at_scope m (map scoped_bound xs)) scoped in
      Solves-as (λ v. AsksBound b levels m x v × AsksEach subs levels m xs v) (AsksEach (b ∷ subs) levels m (x ∷ xs)) old
      (all_found (map (matcher_bound g) (b ∷ subs)) levels m (x ∷ xs) old)
      (λ v h. (and_true (fits_bound width v b) (all_pass (map (fits_bound width v) subs)) h.0.0 h.1.0, rw (h.0.1, h.1.1) refl))
      (λ v h.
      let k = both_true (fits_bound width v b) (all_pass (map (fits_bound width v) subs)) h.0 in
      let e = h.1 in ((k.0, cc), (k.1, cc)))
      (Solves-then (AsksBound b levels m x) (AsksEach subs levels m xs) old ((matcher_bound g b).finds levels m x old) (all_found (map (matcher_bound g) subs) levels m xs)
      (solved_bound b x levels m old ih.0 f.0 l.0 usable s.0) (λ found. solved_subs subs xs levels m found ih.1 f.1 l.1 usable s.1))

  -- an operator
  solved_op : (o : Sym) (ps : List ParamPat) (subs : List PBound) → OfEachBody IsSolved subs → IsSolved (pat.Op o ps subs)
  solved_op o ps subs ih levels m t old fine lists usable scoped = rw finds-Op (elim (variant t) [
    | inl v ↦ rw (v.1, out-Var v.0) (Solves-none (Asks (pat.Op o ps subs) levels m (Var v.0)) old (λ w h. let e = sym (opened w) ∙ h.1 in absurd (cc)))
    | inr w ↦ rw (w.3, out-Op w.0 w.1 w.2) (on_operator w.0 w.1 w.2 (rw w.3 at scoped))
  ]) where
    opened : (v : Values) → inst_of g v (pat.Op o ps subs) (map Var levels) m ≡ Op o (map (param_of v) ps) (made_each (map (inst_bound g v) subs) (map Var levels) m)
    opened v = inst-Op g v o ps subs (map Var levels) m

    fit_from : (v : Values) → IsTrue (fits width v (pat.Op o ps subs)) → IsTrue (all_pass (map (fits_bound width v) subs))
    fit_from v h = rw fits-Op at h

    fit_to : (v : Values) → IsTrue (all_pass (map (fits_bound width v) subs)) → IsTrue (fits width v (pat.Op o ps subs))
    fit_to v h = rw fits-Op h

    on_operator : (o' : Sym) (vs : List Param) (xs : List Bound) → in_scope_of (Op o' vs xs) m ≡ true →
        Solves (Asks (pat.Op o ps subs) levels m (Op o' vs xs)) old
        (if nat_eq o.0 o'.0 then option_and_then (all_found (map (matcher_bound g) subs) levels m xs) (params_found ps vs old) else None)
    on_operator o' vs xs scoped' = elim (decided (nat_eq o.0 o'.0)) [
      | inl same ↦ rw same (Solves-as (λ v. (map (param_of v) ps ≡ vs) × AsksEach subs levels m xs v) (Asks (pat.Op o ps subs) levels m (Op o' vs xs)) old
          (option_and_then (all_found (map (matcher_bound g) subs) levels m xs) (params_found ps vs old))
          (λ v h. (fit_to v h.1.0, opened v ∙ rw (same_name o o' same, h.0, h.1.1) refl))
          (λ v h. let e = sym (opened v) ∙ h.1 in (cc, (fit_from v h.0, op-subs o o' (map (param_of v) ps) vs _ xs e)))
          (Solves-then (λ v. map (param_of v) ps ≡ vs) (AsksEach subs levels m xs) old (params_found ps vs old) (all_found (map (matcher_bound g) subs) levels m xs)
          (params-solved ps vs old)
          (λ found. solved_subs subs xs levels m found ih (rw fine-Op at fine) (rw lists_known-Op at lists) usable (rw in_scope-Op at scoped'))))
      | inr other ↦ rw other (Solves-none (Asks (pat.Op o ps subs) levels m (Op o' vs xs)) old (λ v h.
          let e = sym (opened v) ∙ h.1 in
          let k : o ≡ o' = cc in
          let k' : o.0 ≡ o'.0 = ap (λ (s : Sym). s.0) k in
          absurd (grind (arith, nat_tests, other, k'))))
    ]

  -- the values that make the pattern the term are those that are found
  pub pattern-solved : (p : Pattern) (levels : List ℕ) (m : ℕ) (t : Term) (old : Found) → (seen p).fine (length levels) ≡ true → lists_known known p ≡ true →
      Usable g known levels m → in_scope_of t m ≡ true → Solves (Asks p levels m t) old (found_in g p levels m t old)
  pattern-solved = each_pattern IsSolved solved_var solved_op solved_meta
