-- One level of each definition on patterns.
use Rattle.std.proofs.Common.{◌≡◌, ℕ, ◌+◌, List, [], ◌∷◌, ◌++◌, length, map, get_or, true, false, nat_lt, nat_le, sum, ◌&&◌, Some, None, ◌∙◌, rules}
use Rattle.std.proofs.lemmas.List.{length-map}
use Rattle.std.proofs.lemmas.List.Folds.{flat_map-map}
use Rattle.std.proofs.lemmas.Simd.{map-map}
use Rattle.std.specs.List.{flat_map}
use Rattle.mp_logic.specs.declared.sym.Sym.{Sym}
use Rattle.mp_term.specs.declared.term.Term.{Term, Var, Op}
use Rattle.mp_term.specs.Terms.{in_scope_of, all_at_scope}
use Rattle.mp_logic.specs.Lists.{greatest}
use Rattle.mp_term.specs.Subst.{sub_of, variables}
use Rattle.mp_schema.specs.declared.pattern.ParamPat.{ParamPat}
use Rattle.mp_schema.specs.declared.pattern.Pattern.{Pattern, the_lemmas}
use Rattle.mp_schema.specs.declared.pattern.Pattern as pat
use Rattle.mp_schema.specs.declared.pattern.PBound.{PBound}
use Rattle.mp_schema.specs.Instances.{Values, Ground, Wide, inst_of, inst_bound, made_each, param_of, fits, fits_bound, all_pass}
use Rattle.mp_schema.specs.Limits.{few_of, few_of_bound, pattern_depth_of, pattern_depth_of_bound, pattern_size_of, pattern_size_of_bound}
use Rattle.mp_schema.specs.Occurrences.{Shown, shown, variable_level, occurrences_in, occurrences_in_bound, occurrences_shown, hole_in_param, holes_in, holes_in_bound}
use Rattle.mp_schema.specs.Conditions.{below, below_bound, lists_known, lists_known_bound, is_known, seen, seen_bound, all_fine, args_fine}

module _ (g : Ground) (v : Values) where
  pub inst-Var : (l : ℕ) (env : List Term) (m : ℕ) → inst_of g v (pat.Var l) env m ≡ get_or env l (Var l)
  inst-Var l env m = search (rules, the_lemmas)

  pub inst-Op : (o : Sym) (ps : List ParamPat) (subs : List PBound) (env : List Term) (m : ℕ) →
      inst_of g v (pat.Op o ps subs) env m ≡ Op o (map (param_of v) ps) (made_each (map (inst_bound g v) subs) env m)
  inst-Op o ps subs env m = search (rules, the_lemmas)

  pub inst-Meta : (n : Sym) (cs : List Sym) (args : List Pattern) (env : List Term) (m : ℕ) →
      inst_of g v (pat.Meta n cs args) env m ≡ sub_of (v.meta n) (map Var (g cs) ++ made_each (map (inst_of g v) args) env m) m
  inst-Meta n cs args env m = search (rules, the_lemmas)

  pub inst_bound-is : (b : PBound) (env : List Term) (m : ℕ) →
      inst_bound g v b env m ≡ record { binders = b.binders; body = inst_of g v b.body (env ++ variables m b.binders) (m + b.binders) }
  inst_bound-is b env m = search (rules, the_lemmas)

module _ (w : Wide) (v : Values) where
  pub fits-Var : (l : ℕ) → fits w v (pat.Var l) ≡ true
  fits-Var l = search (rules, the_lemmas)

  pub fits-Op : (o : Sym) (ps : List ParamPat) (subs : List PBound) → fits w v (pat.Op o ps subs) ≡ all_pass (map (fits_bound w v) subs)
  fits-Op o ps subs = search (rules, the_lemmas)

  pub fits-Meta : (n : Sym) (cs : List Sym) (args : List Pattern) →
      fits w v (pat.Meta n cs args) ≡ (in_scope_of (v.meta n) (w cs + length args) && all_pass (map (fits w v) args))
  fits-Meta n cs args =
      let many = length-map args (fits w v) in
      let e : fits w v (pat.Meta n cs args) ≡ (in_scope_of (v.meta n) (w cs + length (map (fits w v) args)) && all_pass (map (fits w v) args))
      = search (rules, the_lemmas) in
      rw many at e

  pub fits_bound-is : (b : PBound) → fits_bound w v b ≡ fits w v b.body
  fits_bound-is b = search (rules, the_lemmas)

pub seen-Var : (l : ℕ) → (seen (pat.Var l)).level ≡ Some l
seen-Var l = search (rules, the_lemmas)

pub seen-Op : (o : Sym) (ps : List ParamPat) (subs : List PBound) → (seen (pat.Op o ps subs)).level ≡ None
seen-Op o ps subs = search (rules, the_lemmas)

pub seen-Meta : (n : Sym) (cs : List Sym) (args : List Pattern) → (seen (pat.Meta n cs args)).level ≡ None
seen-Meta n cs args = search (rules, the_lemmas)

pub fine-Var : (l d : ℕ) → (seen (pat.Var l)).fine d ≡ nat_lt l d
fine-Var l d = search (rules, the_lemmas)

pub fine-Op : (o : Sym) (ps : List ParamPat) (subs : List PBound) (d : ℕ) → (seen (pat.Op o ps subs)).fine d ≡ all_fine d (map seen_bound subs)
fine-Op o ps subs d = search (rules, the_lemmas)

pub fine-Meta : (n : Sym) (cs : List Sym) (args : List Pattern) (d : ℕ) →
    (seen (pat.Meta n cs args)).fine d ≡ args_fine d (map seen args)
fine-Meta n cs args d = search (rules, the_lemmas)

pub fine_bound-is : (b : PBound) (d : ℕ) → (seen_bound b).fine d ≡ (seen b.body).fine (d + b.binders)
fine_bound-is b d = search (rules, the_lemmas)

pub below-Var : (l d : ℕ) → below (pat.Var l) d ≡ nat_lt l d
below-Var l d = search (rules, the_lemmas)

pub below-Op : (o : Sym) (ps : List ParamPat) (subs : List PBound) (d : ℕ) → below (pat.Op o ps subs) d ≡ all_at_scope d (map below_bound subs)
below-Op o ps subs d = search (rules, the_lemmas)

pub below-Meta : (n : Sym) (cs : List Sym) (args : List Pattern) (d : ℕ) → below (pat.Meta n cs args) d ≡ all_at_scope d (map below args)
below-Meta n cs args d = search (rules, the_lemmas)

pub below_bound-is : (b : PBound) (d : ℕ) → below_bound b d ≡ below b.body (d + b.binders)
below_bound-is b d = search (rules, the_lemmas)

module _ (known : List Sym) where
  pub lists_known-Var : (l : ℕ) → lists_known known (pat.Var l) ≡ true
  lists_known-Var l = search (rules, the_lemmas)

  pub lists_known-Op : (o : Sym) (ps : List ParamPat) (subs : List PBound) →
      lists_known known (pat.Op o ps subs) ≡ all_pass (map (lists_known_bound known) subs)
  lists_known-Op o ps subs = search (rules, the_lemmas)

  pub lists_known-Meta : (n : Sym) (cs : List Sym) (args : List Pattern) →
      lists_known known (pat.Meta n cs args) ≡ (is_known known cs && all_pass (map (lists_known known) args))
  lists_known-Meta n cs args = search (rules, the_lemmas)

  pub lists_known_bound-is : (b : PBound) → lists_known_bound known b ≡ lists_known known b.body
  lists_known_bound-is b = search (rules, the_lemmas)

pub level_of-Var : (l : ℕ) → variable_level (pat.Var l) ≡ Some l
level_of-Var l = search (rules, the_lemmas)

pub level_of-Op : (o : Sym) (ps : List ParamPat) (subs : List PBound) → variable_level (pat.Op o ps subs) ≡ None
level_of-Op o ps subs = search (rules, the_lemmas)

pub level_of-Meta : (n : Sym) (cs : List Sym) (args : List Pattern) → variable_level (pat.Meta n cs args) ≡ None
level_of-Meta n cs args = search (rules, the_lemmas)

pub occurrences_in-Var : (l : ℕ) → occurrences_in (pat.Var l) ≡ []
occurrences_in-Var l = search (rules, the_lemmas)

pub occurrences_in-Op : (o : Sym) (ps : List ParamPat) (subs : List PBound) →
    occurrences_in (pat.Op o ps subs) ≡ flat_map occurrences_in_bound subs
occurrences_in-Op o ps subs =
    let e : occurrences_in (pat.Op o ps subs) ≡ flat_map (λ os. os) (map occurrences_in_bound subs) = search (rules, the_lemmas) in
    e ∙ flat_map-map (λ os. os) occurrences_in_bound subs

pub occurrences_in-Meta : (n : Sym) (cs : List Sym) (args : List Pattern) →
    occurrences_in (pat.Meta n cs args)
    ≡ record { is_context = false; name = n; ctxs = cs; levels = map variable_level args } ∷ flat_map occurrences_in args
occurrences_in-Meta n cs args =
    let e : occurrences_in (pat.Meta n cs args)
    ≡ record { is_context = false; name = n; ctxs = cs; levels = map (λ (a : Shown). a.level) (map shown args) } ∷ occurrences_shown (map shown args)
    = search (rules, the_lemmas) in
    rw (map-map (λ (a : Shown). a.level) shown args, flat_map-map (λ (a : Shown). a.occurrences) shown args) at e

pub occurrences_in_bound-is : (b : PBound) → occurrences_in_bound b ≡ occurrences_in b.body
occurrences_in_bound-is b = search (rules, the_lemmas)

pub holes_in-Var : (l : ℕ) → holes_in (pat.Var l) ≡ []
holes_in-Var l = search (rules, the_lemmas)

pub holes_in-Op : (o : Sym) (ps : List ParamPat) (subs : List PBound) →
    holes_in (pat.Op o ps subs) ≡ flat_map hole_in_param ps ++ flat_map holes_in_bound subs
holes_in-Op o ps subs =
    let e : holes_in (pat.Op o ps subs) ≡ flat_map hole_in_param ps ++ flat_map (λ hs. hs) (map holes_in_bound subs) = search (rules, the_lemmas) in
    rw (flat_map-map (λ hs. hs) holes_in_bound subs) at e

pub holes_in-Meta : (n : Sym) (cs : List Sym) (args : List Pattern) → holes_in (pat.Meta n cs args) ≡ flat_map holes_in args
holes_in-Meta n cs args =
    let e : holes_in (pat.Meta n cs args) ≡ flat_map (λ hs. hs) (map holes_in args) = search (rules, the_lemmas) in
    rw (flat_map-map (λ hs. hs) holes_in args) at e

pub holes_in_bound-is : (b : PBound) → holes_in_bound b ≡ holes_in b.body
holes_in_bound-is b = search (rules, the_lemmas)

pub few_of-Var : (l : ℕ) → few_of (pat.Var l) ≡ true
few_of-Var l = search (rules, the_lemmas)

pub few_of-Op : (o : Sym) (ps : List ParamPat) (subs : List PBound) → few_of (pat.Op o ps subs) ≡ (nat_le (length ps) 16 && all_pass (map few_of_bound subs))
few_of-Op o ps subs = search (rules, the_lemmas)

pub few_of-Meta : (n : Sym) (cs : List Sym) (args : List Pattern) →
    few_of (pat.Meta n cs args) ≡ (nat_le (length cs) 8 && nat_le (length args) 8 && all_pass (map few_of args))
few_of-Meta n cs args =
    let many = length-map args few_of in
    let e : few_of (pat.Meta n cs args) ≡ (nat_le (length cs) 8 && nat_le (length (map few_of args)) 8 && all_pass (map few_of args)) = search (rules, the_lemmas) in
    rw many at e

pub few_of_bound-is : (b : PBound) → few_of_bound b ≡ (nat_le b.binders 8 && few_of b.body)
few_of_bound-is b = search (rules, the_lemmas)

pub pattern_depth_of-Var : (l : ℕ) → pattern_depth_of (pat.Var l) ≡ 1
pattern_depth_of-Var l = search (rules, the_lemmas)

pub pattern_depth_of-Op : (o : Sym) (ps : List ParamPat) (subs : List PBound) → pattern_depth_of (pat.Op o ps subs) ≡ 1 + greatest (map pattern_depth_of_bound subs)
pattern_depth_of-Op o ps subs = search (rules, the_lemmas)

pub pattern_depth_of-Meta : (n : Sym) (cs : List Sym) (args : List Pattern) → pattern_depth_of (pat.Meta n cs args) ≡ 1 + greatest (map pattern_depth_of args)
pattern_depth_of-Meta n cs args = search (rules, the_lemmas)

pub pattern_depth_of_bound-is : (b : PBound) → pattern_depth_of_bound b ≡ pattern_depth_of b.body
pattern_depth_of_bound-is b = search (rules, the_lemmas)

pub pattern_size_of-Var : (l : ℕ) → pattern_size_of (pat.Var l) ≡ 1
pattern_size_of-Var l = search (rules, the_lemmas)

pub pattern_size_of-Op : (o : Sym) (ps : List ParamPat) (subs : List PBound) → pattern_size_of (pat.Op o ps subs) ≡ 1 + sum (map pattern_size_of_bound subs)
pattern_size_of-Op o ps subs = search (rules, the_lemmas)

pub pattern_size_of-Meta : (n : Sym) (cs : List Sym) (args : List Pattern) → pattern_size_of (pat.Meta n cs args) ≡ 1 + sum (map pattern_size_of args)
pattern_size_of-Meta n cs args = search (rules, the_lemmas)

pub pattern_size_of_bound-is : (b : PBound) → pattern_size_of_bound b ≡ pattern_size_of b.body
pattern_size_of_bound-is b = search (rules, the_lemmas)
