-- Values that make one term of a pattern are the same where the pattern has names.
use Rattle.std.proofs.Common.{◌≡◌, ℕ, ◌+◌, ◌-◌, ◌<◌, ◌≤◌, List, [], ◌∷◌, ◌++◌, map, length, get_or, true, nat_eq, IsTrue, All, Option, Some, None, inl, inr, refl, sym, ap, ◌∙◌, subst, append_assoc, arith, rules}
use Rattle.std.specs.List.{IsDistinct, flat_map}
use Rattle.std.proofs.lemmas.Bool.Decides.{nat_tests}
use Rattle.std.proofs.lemmas.List.{map-append, length-append, length-map, get_or-map}
use Rattle.mp_logic.specs.declared.sym.Sym.{Sym}
use Rattle.mp_term.specs.declared.term.Param.{Param}
use Rattle.mp_term.specs.declared.term.Term.{Term, Term-F, Var, Op, out-Term, the_lemmas}
use Rattle.mp_term.specs.declared.term.Term.TheOpen as layer
use Rattle.mp_term.specs.declared.term.Bound.{Bound}
use Rattle.mp_term.specs.Terms.{in_scope_of}
use Rattle.mp_term.specs.Subst.{sub_of, variables, unrenamed, upto}
use Rattle.mp_term.proofs.Renaming.{unrenamed-sub}
use Rattle.mp_term.proofs.SubLaws.{under-none}
use Rattle.mp_schema.specs.declared.pattern.Pattern.{Pattern}
use Rattle.mp_schema.specs.declared.pattern.Pattern as pat
use Rattle.mp_schema.specs.declared.pattern.ParamPat.{ParamPat}
use Rattle.mp_schema.specs.declared.pattern.ParamPat.TheVariants.{Lit, Hole}
use Rattle.mp_schema.specs.declared.pattern.PBound.{PBound}
use Rattle.mp_schema.specs.Induction.{each_pattern, OfEachBody, OfEachArg}
use Rattle.mp_schema.specs.Conditions.{argument, Seen, seen, seen_bound, is_level_below, all_variables, all_fine, is_known, lists_known, lists_known_bound}
use Rattle.mp_schema.specs.Instances.{Values, Ground, Wide, made_each, param_of, inst_of, inst_bound, fits, fits_bound, all_pass}
use Rattle.mp_schema.specs.Occurrences.{In, Occurrence, occurrences_in, occurrences_in_bound, hole_in_param, holes_in, holes_in_bound}
use Rattle.mp_schema.proofs.Layers.{inst-Var, inst-Op, inst-Meta, inst_bound-is, fits-Op, fits-Meta, fits_bound-is, seen-Var, seen-Op, seen-Meta, fine-Op, fine-Meta, fine_bound-is, lists_known-Op, lists_known-Meta, lists_known_bound-is, occurrences_in-Var, occurrences_in-Op, occurrences_in-Meta, occurrences_in_bound-is, holes_in-Var, holes_in-Op, holes_in-Meta, holes_in_bound-is}
use Rattle.mp_schema.proofs.Lists.{in-split, value_or}
use Rattle.mp_schema.proofs.Agreeing.{and_both}
use Rattle.mp_term.proofs.Ranges.{length-upto, upto-append, map-Var-upto}
use Rattle.mp_schema.proofs.Arguments.{fine-variables, arguments-distinct, arguments-below}

-- ## Terms

out-Op : (o : Sym) (ps : List Param) (bs : List Bound) → out-Term (Op o ps bs) ≡ layer.Op o ps bs
out-Op o ps bs = search (rules, the_lemmas)

abbrev subs_in : Term-F Term Bound → List Bound
subs_in (layer.Var l) = []
subs_in (layer.Op o ps bs) = bs

abbrev params_in : Term-F Term Bound → List Param
params_in (layer.Var l) = []
params_in (layer.Op o ps bs) = ps

pub op-subs : (o o' : Sym) (ps ps' : List Param) (bs bs' : List Bound) → Op o ps bs ≡ Op o' ps' bs' → bs ≡ bs'
op-subs o o' ps ps' bs bs' e = sym (ap subs_in (out-Op o ps bs)) ∙ ap (λ t. subs_in (out-Term t)) e ∙ ap subs_in (out-Op o' ps' bs')

op-params : (o o' : Sym) (ps ps' : List Param) (bs bs' : List Bound) → Op o ps bs ≡ Op o' ps' bs' → ps ≡ ps'
op-params o o' ps ps' bs bs' e = sym (ap params_in (out-Op o ps bs)) ∙ ap (λ t. params_in (out-Term t)) e ∙ ap params_in (out-Op o' ps' bs')

-- a renaming is undone
module _ (levels : List ℕ) (n : ℕ) (distinct : IsDistinct nat_eq levels) (below : All (λ l. l < n) levels) where
  undone : (u : Term) → IsTrue (in_scope_of u (length levels)) → (t : Term) → sub_of u (map Var levels) n ≡ t → unrenamed levels n t ≡ Some u
  undone u inner t e =
      let p : length levels + 0 ≡ length levels = omega arith in
      let q : n + 0 ≡ n = omega arith in
      rw (under-none, q, e) at (unrenamed-sub levels n distinct (λ i h. below i 0 h) u 0 (rw p inner))

  -- terms that are renamed to one term are one
  pub renaming-injective : (u v : Term) → IsTrue (in_scope_of u (length levels)) → IsTrue (in_scope_of v (length levels)) → sub_of u (map Var levels) n ≡ sub_of v (map Var levels) n → u ≡ v
  renaming-injective u v inner inner' e =
      ap (value_or u) (sym (undone u inner (sub_of v (map Var levels) n) e) ∙ undone v inner' (sub_of v (map Var levels) n) refl)

-- ## Arguments are variables

module _ (g : Ground) (v : Values) (env : List Term) (m : ℕ) where
  abbrev IsPlain : Pattern → Type 0
  IsPlain p = (l : ℕ) → (seen p).level ≡ Some l → (inst_of g v p env m ≡ get_or env l (Var l)) × (occurrences_in p ≡ []) × (holes_in p ≡ [])

  plain_var : (k : ℕ) → IsPlain (pat.Var k)
  plain_var k l e =
      let same : k ≡ l = let x = sym (seen-Var k) ∙ e in cc in
      rw (← same) (inst-Var g v k env m, occurrences_in-Var k, holes_in-Var k)

  plain_op : (o : Sym) (ps : List ParamPat) (subs : List PBound) → OfEachBody IsPlain subs → IsPlain (pat.Op o ps subs)
  plain_op o ps subs h l e = let x = sym (seen-Op o ps subs) ∙ e in absurd (cc)

  plain_meta : (n : Sym) (cs : List Sym) (args : List Pattern) → OfEachArg IsPlain args → IsPlain (pat.Meta n cs args)
  plain_meta n cs args h l e = let x = sym (seen-Meta n cs args) ∙ e in absurd (cc)

  pub plain : (p : Pattern) (l : ℕ) → (seen p).level ≡ Some l → (inst_of g v p env m ≡ get_or env l (Var l)) × (occurrences_in p ≡ []) × (holes_in p ≡ [])
  plain = each_pattern IsPlain plain_var plain_op plain_meta

module _ (g : Ground) (v : Values) (levels : List ℕ) (m : ℕ) where
  arg_level : (d : ℕ) (o : Option ℕ) → is_level_below d o ≡ true → (l : ℕ) × ((o ≡ Some l) × (l < d))
  arg_level d None h = absurd (cc)
  arg_level d (Some l) h = (l, (refl, grind (arith, nat_tests, h)))

  -- what the arguments make: the variables that they are; and they have no names
  pub args-made : (args : List Pattern) → all_variables (length levels) (map seen args) ≡ true →
      (made_each (map (inst_of g v) args) (map Var levels) m ≡ map Var (map (λ (a : Seen). argument levels a.level) (map seen args)))
      × (flat_map occurrences_in args ≡ []) × (flat_map holes_in args ≡ [])
  args-made [] h = (refl, refl, refl)
  args-made (a ∷ rest) h =
      let k = and_both (is_level_below (length levels) (seen a).level) (all_variables (length levels) (map seen rest)) h in
      let l = arg_level (length levels) (seen a).level k.0 in
      let here = plain g v (map Var levels) m a l.0 l.1.0 in
      let others = args-made rest k.1 in
      let item = get_or-map Var levels l.0 0 (Var l.0) l.1.1 in
      let at : argument levels (seen a).level ≡ get_or levels l.0 0 = ap (argument levels) l.1.0 in
      (rw (here.0, item, others.0, at) refl, rw (here.1, others.1) refl, rw (here.2, others.2) refl)

-- ## Patterns

module _ (g h : Ground) (wide wide' : Wide) (known : List Sym) (v w : Values) (named : List ℕ) (next : ℕ) (grounds : (cs : List Sym) → is_known known cs ≡ true → g cs ≡ h cs)
    (sizes : (cs : List Sym) → length (g cs) ≡ wide cs) (sizes' : (cs : List Sym) → length (h cs) ≡ wide' cs) (distinct : (cs : List Sym) → is_known known cs ≡ true → IsDistinct nat_eq (g cs ++ named))
    (below : (cs : List Sym) → is_known known cs ≡ true → All (λ l. l < next) (g cs ++ named)) where
  -- the variables of a pattern's levels, under binders up to this scope
  abbrev pub levels : ℕ → List ℕ
  levels scope = named ++ upto next (scope - next)

  abbrev pub SameMetas : List Occurrence → Type 0
  SameMetas os = (o : Occurrence) → In o os → v.meta o.name ≡ w.meta o.name

  abbrev pub SameHoles : List Sym → Type 0
  SameHoles names = (name : Sym) → In name names → v.param name ≡ w.param name

  abbrev IsOne : Pattern → Type 0
  IsOne p = (scope : ℕ) → next ≤ scope → (seen p).fine (length named + (scope - next)) ≡ true → lists_known known p ≡ true →
      fits wide v p ≡ true → fits wide' w p ≡ true → inst_of g v p (map Var (levels scope)) scope ≡ inst_of h w p (map Var (levels scope)) scope →
      SameMetas (occurrences_in p) × SameHoles (holes_in p)

  -- nothing is said where nothing stands
  no_metas : (os : List Occurrence) → os ≡ [] → SameMetas os
  no_metas os none o i = absurd (subst (In o) none i)

  no_holes : (names : List Sym) → names ≡ [] → SameHoles names
  no_holes names none n i = absurd (subst (In n) none i)

  one_var : (l : ℕ) → IsOne (pat.Var l)
  one_var l scope outer fine lists fv fw e = (no_metas (occurrences_in (pat.Var l)) (occurrences_in-Var l), no_holes (holes_in (pat.Var l)) (holes_in-Var l))

  one_params : (ps : List ParamPat) → map (param_of v) ps ≡ map (param_of w) ps → SameHoles (flat_map hole_in_param ps)
  one_params [] e n i = absurd i
  one_params (Lit p ∷ ps) e n i = one_params ps (let t : map (param_of v) ps ≡ map (param_of w) ps = cc in t) n i
  one_params (Hole name ∷ ps) e n (inl same) = subst (λ x. v.param x ≡ w.param x) same (let t : v.param name ≡ w.param name = cc in t)
  one_params (Hole name ∷ ps) e n (inr i) = one_params ps (let t : map (param_of v) ps ≡ map (param_of w) ps = cc in t) n i

  longer : (scope k : ℕ) → next ≤ scope → map Var (levels scope) ++ variables scope k ≡ map Var (levels (scope + k))
  longer scope k outer =
      let e : next + (scope - next) ≡ scope = omega (arith, outer) in
      let e' : (scope - next) + k ≡ scope + k - next = omega (arith, outer) in
      let joined = rw (e, e') at (upto-append next (scope - next) k) in
      rw (← map-Var-upto scope k, ← map-append Var (levels scope) (upto scope k), append_assoc, joined) refl

  one_bodies : (subs : List PBound) → OfEachBody IsOne subs → (scope : ℕ) → next ≤ scope → all_fine (length named + (scope - next)) (map seen_bound subs) ≡ true →
      all_pass (map (lists_known_bound known) subs) ≡ true → all_pass (map (fits_bound wide v) subs) ≡ true → all_pass (map (fits_bound wide' w) subs) ≡ true →
      made_each (map (inst_bound g v) subs) (map Var (levels scope)) scope ≡ made_each (map (inst_bound h w) subs) (map Var (levels scope)) scope →
      SameMetas (flat_map occurrences_in_bound subs) × SameHoles (flat_map holes_in_bound subs)
  one_bodies [] all scope outer fine lists fv fw e = (λ o i. absurd i, λ n i. absurd i)
  one_bodies (b ∷ bs) all scope outer fine lists fv fw e =
      let env = map Var (levels scope) in
      let f = and_both ((seen_bound b).fine (length named + (scope - next))) (all_fine (length named + (scope - next)) (map seen_bound bs)) fine in
      let k = and_both (lists_known_bound known b) (all_pass (map (lists_known_bound known) bs)) lists in
      let one = and_both (fits_bound wide v b) (all_pass (map (fits_bound wide v) bs)) fv in
      let other = and_both (fits_bound wide' w b) (all_pass (map (fits_bound wide' w) bs)) fw in
      let first : inst_bound g v b env scope ≡ inst_bound h w b env scope = cc in
      let rest : made_each (map (inst_bound g v) bs) env scope ≡ made_each (map (inst_bound h w) bs) env scope = cc in
      let bodies = rw (inst_bound-is, inst_bound-is, longer scope b.binders outer) at first in
      let body : inst_of g v b.body (map Var (levels (scope + b.binders))) (scope + b.binders) ≡ inst_of h w b.body (map Var (levels (scope + b.binders))) (scope + b.binders)
      = ap (λ (x : Bound). x.body) bodies in
      let n : length named + (scope - next) + b.binders ≡ length named + (scope + b.binders - next) = omega (arith, outer) in
      let fine_here = rw (fine_bound-is, n) at f.0 in
      let here = all.0 (scope + b.binders) (omega (arith, outer)) fine_here (sym (lists_known_bound-is known b) ∙ k.0) (sym (fits_bound-is wide v b) ∙ one.0)
      (sym (fits_bound-is wide' w b) ∙ other.0) body in
      let others = one_bodies bs all.1 scope outer f.1 k.1 one.1 other.1 rest in (
        λ o i. elim (in-split o (occurrences_in_bound b) (flat_map occurrences_in_bound bs) i) [
          | inl near ↦ here.0 o (subst (In o) (occurrences_in_bound-is b) near)
          | inr far ↦ others.0 o far
        ],
        λ n i. elim (in-split n (holes_in_bound b) (flat_map holes_in_bound bs) i) [
          | inl near ↦ here.1 n (subst (In n) (holes_in_bound-is b) near)
          | inr far ↦ others.1 n far
        ],
      )

  one_op : (o : Sym) (ps : List ParamPat) (subs : List PBound) → OfEachBody IsOne subs → IsOne (pat.Op o ps subs)
  one_op o ps subs all scope outer fine lists fv fw e =
      let env = map Var (levels scope) in
      let both = sym (inst-Op g v o ps subs env scope) ∙ e ∙ inst-Op h w o ps subs env scope in
      let bodies = op-subs o o (map (param_of v) ps) (map (param_of w) ps) (made_each (map (inst_bound g v) subs) env scope) (made_each (map (inst_bound h w) subs) env scope) both in
      let params = op-params o o (map (param_of v) ps) (map (param_of w) ps) (made_each (map (inst_bound g v) subs) env scope) (made_each (map (inst_bound h w) subs) env scope) both in
      let inner = one_bodies subs all scope outer (sym (fine-Op o ps subs (length named + (scope - next))) ∙ fine) (sym (lists_known-Op known o ps subs) ∙ lists)
      (sym (fits-Op wide v o ps subs) ∙ fv) (sym (fits-Op wide' w o ps subs) ∙ fw) bodies in
      let holes = one_params ps params in (
        λ x i. inner.0 x (subst (In x) (occurrences_in-Op o ps subs) i),
        λ n i. elim (in-split n (flat_map hole_in_param ps) (flat_map holes_in_bound subs) (subst (In n) (holes_in-Op o ps subs) i)) [
          | inl near ↦ holes n near
          | inr far ↦ inner.1 n far
        ],
      )

  one_meta : (n : Sym) (cs : List Sym) (args : List Pattern) → OfEachArg IsOne args → IsOne (pat.Meta n cs args)
  one_meta n cs args parts scope outer fine lists fv fw e =
      let env = map Var (levels scope) in
      let ground = and_both (is_known known cs) (all_pass (map (lists_known known) args)) (sym (lists_known-Meta known n cs args) ∙ lists) in
      let plain_args = sym (fine-Meta n cs args (length named + (scope - next))) ∙ fine in
      let long : length (levels scope) ≡ length named + (scope - next) = length-append named (upto next (scope - next)) ∙ ap (λ k. length named + k) (length-upto next (scope - next)) in
      let variables_all = rw (sym long) at (fine-variables (length named + (scope - next)) (map seen args) plain_args) in
      let left = args-made g v (levels scope) scope args variables_all in
      let right = args-made h w (levels scope) scope args variables_all in
      let chosen = map (λ (a : Seen). argument (levels scope) a.level) (map seen args) in
      let all = g cs ++ chosen in
      let apart = arguments-distinct (g cs) named next scope (map seen args) outer (distinct cs ground.0) (below cs ground.0) plain_args in
      let low = arguments-below (g cs) named next scope (map seen args) outer (distinct cs ground.0) (below cs ground.0) plain_args in
      let many : length all ≡ wide cs + length args =
      length-append (g cs) chosen ∙ ap (λ k. k + length chosen) (sizes cs) ∙ ap (λ k. wide cs + k) (length-map (map seen args) (λ (a : Seen). argument (levels scope) a.level) ∙ length-map args seen) in
      let one = and_both (in_scope_of (v.meta n) (wide cs + length args)) (all_pass (map (fits wide v) args)) (sym (fits-Meta wide v n cs args) ∙ fv) in
      let other = and_both (in_scope_of (w.meta n) (wide' cs + length args)) (all_pass (map (fits wide' w) args)) (sym (fits-Meta wide' w n cs args) ∙ fw) in
      let list_left : map Var (g cs) ++ made_each (map (inst_of g v) args) env scope ≡ map Var all = ap (λ ts. map Var (g cs) ++ ts) left.0 ∙ sym (map-append Var (g cs) chosen) in
      let other_ground = grounds cs ground.0 in
      let many' : length all ≡ wide' cs + length args =
      length-append (g cs) chosen ∙ ap (λ k. k + length chosen) (ap (λ (ls : List ℕ). length ls) other_ground ∙ sizes' cs) ∙ ap (λ k. wide' cs + k) (length-map (map seen args) (λ (a : Seen). argument (levels scope) a.level) ∙ length-map args seen) in
      let list_right : map Var (h cs) ++ made_each (map (inst_of h w) args) env scope ≡ map Var all =
      ap (λ ts. map Var (h cs) ++ ts) right.0 ∙ ap (λ ls. map Var ls ++ map Var chosen) (sym other_ground) ∙ sym (map-append Var (g cs) chosen) in
      let both : sub_of (v.meta n) (map Var all) scope ≡ sub_of (w.meta n) (map Var all) scope =
      sym (inst-Meta g v n cs args env scope ∙ ap (λ ts. sub_of (v.meta n) ts scope) list_left) ∙ e ∙ inst-Meta h w n cs args env scope ∙ ap (λ ts. sub_of (w.meta n) ts scope) list_right in
      let same : v.meta n ≡ w.meta n = renaming-injective all scope apart low (v.meta n) (w.meta n) (rw many one.0) (rw many' other.0) both in (
        λ o i. elim (subst (In o) (occurrences_in-Meta n cs args) i) [
          | inl here ↦ subst (λ (x : Occurrence). v.meta x.name ≡ w.meta x.name) here same
          | inr there ↦ no_metas (flat_map occurrences_in args) left.1 o there
        ],
        λ x i. no_holes (flat_map holes_in args) left.2 x (subst (In x) (holes_in-Meta n cs args) i),
      )

  -- one term of a pattern comes from one value for each name
  pub one_pattern : (p : Pattern) → IsOne p
  one_pattern = each_pattern IsOne one_var one_op one_meta
