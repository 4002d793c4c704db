-- The faults of nodes tell whether what is written keeps what is asked of a pattern.
use Rattle.std.proofs.Common.{◌≡◌, ℕ, ◌+◌, ◌-◌, ◌≤◌, ◌++◌, List, [], ◌∷◌, map, length, length-append, max, Bool, true, false, ◌&&◌, ◌||◌, not, nat_lt, nat_le, Option, Some, None, refl, ap, sym, subst, ◌∙◌, arith}
use Rattle.std.specs.Prelude.{unwrap_or, if◌then◌else◌}
use Rattle.std.specs.List.{list_all, flat_map}
use Rattle.std.proofs.lemmas.Bool.{and_parts, and_from}
use Rattle.std.proofs.lemmas.Bool.Decides.{nat_tests}
use Rattle.std.proofs.lemmas.List.{length-map}
use Rattle.std.proofs.lemmas.List.Folds.{list_all-append}
use Rattle.mp_logic.specs.declared.sym.Sym.{Sym}
use Rattle.mp_logic.specs.Lists.{greatest}
use Rattle.mp_term.specs.Terms.{all_at_scope}
use Rattle.mp_schema.specs.declared.pattern.Pattern.{Pattern}
use Rattle.mp_schema.specs.declared.pattern.PBound.{PBound}
use Rattle.mp_schema.specs.Instances.{all_pass}
use Rattle.mp_schema.specs.Conditions.{below, below_bound, has_all, is_apart}
use Rattle.mp_schema.specs.Faults.{are_distinct}
use Rattle.mp_schema.specs.Limits.{few_of, few_of_bound, pattern_depth_of, pattern_depth_of_bound}
use Rattle.mp_schema.specs.Occurrences.{Occurrence, variable_level, occurrences_in, occurrences_in_bound}
use Rattle.mp_schema.proofs.Layers.{below-Var, below-Op, below-Meta, below_bound-is, few_of-Var, few_of-Op, few_of-Meta, few_of_bound-is, pattern_depth_of-Var, pattern_depth_of-Op, pattern_depth_of-Meta, pattern_depth_of_bound-is, occurrences_in-Var, occurrences_in-Op, occurrences_in-Meta, occurrences_in_bound-is}
use Rattle.mp_words.specs.declared.fail.TextErr.{TextErr}
use Rattle.mp_words.specs.declared.raw.RawName.{RawName}
use Rattle.mp_words.specs.Faults.{too_many}
use Rattle.mp_words.proofs.NoFaults.{nil_parts}
use Rattle.mp_termtext.specs.Statics.{deep, each_faults, level_by, names_of, place_in, unless_bound}
use Rattle.mp_termtext.proofs.Faultless.{place_below}
use Rattle.mp_patterntext.specs.declared.raw.RawParamPat.{RawParamPat}
use Rattle.mp_patterntext.specs.declared.raw.RawPatternBound.{RawPatternBound}
use Rattle.mp_patterntext.specs.declared.raw.RawPattern.{RawPattern}
use Rattle.mp_patterntext.proofs.RawInduction.{OfEachBody, OfEachArg, each_raw, each_args}
use Rattle.mp_patterntext.specs.Scopes.{level_in, syms_of}
use Rattle.mp_patterntext.specs.Values.{Valued, each_pattern_value, param_value, pattern_of, bound_of}
use Rattle.mp_patterntext.specs.Nodes.{Argument, argument_faults, argument_of, bound_node_faults, list_faults, node_faults, param_place, use_faults}
use Rattle.mp_patterntext.proofs.RawLayers.{pattern_of-Var, pattern_of-Op, pattern_of-Meta, bound_of-is, node_faults-Var, node_faults-Op, node_faults-Meta, bound_node_faults-is}
use Rattle.mp_patterntext.proofs.Telling.{OnlyUnbound, Tells, only_both, tells_both, tells_by, tells_if, tells_past, tells_then}
use Rattle.mp_patterntext.proofs.Twice.{tells_list}
use Rattle.mp_patterntext.proofs.ArgumentTells.{distinct_kept, distinct_told}
use Rattle.mp_schema.specs.declared.pattern.Pattern as pat
use Rattle.mp_words.specs.declared.fail.TextWhy.TheVariants as why
use Rattle.mp_patterntext.specs.declared.raw.RawPattern as raw

-- ## What is asked

-- at a depth from which it isn't too deep, with few parts, its variables in range, and its occurrences as is asked
pub record Fit (deepest : ℕ) (f r u : Bool) (d : ℕ) : Type 0 where
  pub depth : deepest ≤ 201 - d
  pub few : f ≡ true
  pub range : r ≡ true
  pub used : u ≡ true

pub fit_by : {a a' d : ℕ} {f f' r r' u u' : Bool} → a ≡ a' → f ≡ f' → r ≡ r' → u ≡ u' → Fit a f r u d → Fit a' f' r' u' d
fit_by {a} {a'} {d} {f} {f'} {r} {r'} {u} {u'} p q s t h = subst (λ (v : ℕ × (Bool × (Bool × Bool))). Fit v.0 v.1.0 v.1.1.0 v.1.1.1 d) (λ i. (p i, (q i, (s i, t i)))) h

-- two things that fit
pub fit_join : {a b d : ℕ} {f g r s u v : Bool} → Fit a f r u d → Fit b g s v d → Fit (max a b) (f && g) (r && s) (u && v) d
fit_join {a} {b} {d} {f} {g} {r} {s} {u} {v} x y = record {
  depth = (let p = x.depth in let q = y.depth in omega (arith, p, q));
  few = and_from f g x.few y.few;
  range = and_from r s x.range y.range;
  used = and_from u v x.used y.used;
}

pub fit_parts : {a b d : ℕ} {f g r s u v : Bool} → Fit (max a b) (f && g) (r && s) (u && v) d → Fit a f r u d × Fit b g s v d
fit_parts {a} {b} {d} {f} {g} {r} {s} {u} {v} h =
    let few = and_parts f g h.few in
    let range = and_parts r s h.range in
    let used = and_parts u v h.used in
    let depth = h.depth in
    (record { depth = omega (arith, depth); few = few.0; range = range.0; used = used.0 }, record { depth = omega (arith, depth); few = few.1; range = range.1; used = used.1 })

pub length-each : {X : Type 0} (fs : List (Valued X)) (env : List Sym) → length (each_pattern_value fs env) ≡ length fs
length-each [] env = refl
length-each (f ∷ fs) env = let e = length-each fs env in omega (arith, e)

tells_deep : (d l : ℕ) → Tells (deep d l) (d ≤ 200)
tells_deep d l = tells_by (deep d l) (tells_if (nat_lt 200 d) l why.TooDeep) (λ e. grind (arith, nat_tests, e)) (λ e. grind (arith, nat_tests, e))

level_small : (env : List Sym) (o : Option ℕ) (i : ℕ) → ((j : ℕ) → o ≡ Some j → nat_lt j (length env) ≡ true) → level_by 0 o None ≡ Some i → nat_lt i (length env) ≡ true
level_small env None i h e = absurd cc
level_small env (Some j) i h e = let lt = h j refl in let q : 0 + j ≡ i = cc in grind (arith, nat_tests, lt, q)

module _ (known : List Sym) (final : Bool) where
  -- what is asked of the list of contexts and the arguments of an occurrence
  abbrev pub is_used_well : List Sym → List (Option ℕ) → Bool
  is_used_well ctxs levels = has_all known ctxs && is_apart ctxs && (not final || are_distinct levels)

  abbrev pub use_test : Occurrence → Bool
  use_test o = is_used_well o.ctxs o.levels

  -- ## Uses

  module _ (cs : List RawName) (xs : List RawPattern) (env : List Sym) where
    abbrev values : List Pattern
    values = each_pattern_value (map pattern_of xs) env

    abbrev pub UseFits : Type 0
    UseFits = ((nat_le (length (syms_of cs)) 8 && nat_le (length values) 8) ≡ true) × (is_used_well (syms_of cs) (map variable_level values) ≡ true)

    abbrev counts : List TextErr
    counts = too_many (λ (c : RawName). c.at) 8 cs ++ too_many (λ (a : Argument). a.at) 8 (map argument_of xs)

    abbrev variables : Bool → List TextErr
    variables b = if b then argument_faults (map argument_of xs) else []

    tells_counts : Tells counts ((nat_le (length (syms_of cs)) 8 && nat_le (length values) 8) ≡ true)
    tells_counts =
        let ctxs : length cs ≡ length (syms_of cs) = sym (length-map cs (λ (c : RawName). c.name)) in
        let a = length-map xs argument_of in let b = length-each (map pattern_of xs) env in let c = length-map xs pattern_of in
        let args : length (map argument_of xs) ≡ length values = omega (arith, a, b, c) in
        tells_by counts
        (tells_both (too_many (λ (c : RawName). c.at) 8 cs) (too_many (λ (a : Argument). a.at) 8 (map argument_of xs)) (tells_past (λ (c : RawName). c.at) why.TooMany 8 cs) (tells_past (λ (a : Argument). a.at) why.TooMany 8 (map argument_of xs)))
        (λ q. and_from _ _ (ap (λ n. nat_le n 8) (sym ctxs) ∙ q.0) (ap (λ n. nat_le n 8) (sym args) ∙ q.1))
        (λ q. let p = and_parts (nat_le (length (syms_of cs)) 8) (nat_le (length values) 8) q in (ap (λ n. nat_le n 8) ctxs ∙ p.0, ap (λ n. nat_le n 8) args ∙ p.1))

    variables_kept : (b : Bool) (d : ℕ) → each_faults (map (node_faults known final) xs) env d ≡ [] → variables b ≡ [] → (not b || are_distinct (map variable_level values)) ≡ true
    variables_kept true d h k = distinct_kept env known final xs d h k
    variables_kept false d h k = refl

    variables_told : (b : Bool) → (not b || are_distinct (map variable_level values)) ≡ true → OnlyUnbound (variables b)
    variables_told true h = distinct_told env xs h
    variables_told false h = tt

    pub use_kept : (d : ℕ) → use_faults known final cs (map argument_of xs) ≡ [] → each_faults (map (node_faults known final) xs) env d ≡ [] → UseFits
    use_kept d h k =
        let last = nil_parts (counts ++ list_faults known cs) (variables final) h in
        let first = nil_parts counts (list_faults known cs) last.0 in
        let listed = (tells_list known cs).kept first.1 in
        (tells_counts.kept first.0, and_from _ _ (and_from _ _ listed.0 listed.1) (variables_kept final d k last.1))

    pub use_told : UseFits → OnlyUnbound (use_faults known final cs (map argument_of xs))
    use_told q =
        let last = and_parts (has_all known (syms_of cs) && is_apart (syms_of cs)) (not final || are_distinct (map variable_level values)) q.1 in
        only_both (counts ++ list_faults known cs) (variables final) (only_both counts (list_faults known cs) (tells_counts.told q.0) ((tells_list known cs).told (and_parts (has_all known (syms_of cs)) (is_apart (syms_of cs)) last.0)))
        (variables_told final last.1)

  -- ## Patterns

  abbrev pub FitOf : Pattern → ℕ → ℕ → Type 0
  FitOf p n d = Fit (pattern_depth_of p) (few_of p) (below p n) (list_all use_test (occurrences_in p)) d

  abbrev FitBound : PBound → ℕ → ℕ → Type 0
  FitBound b n d = Fit (pattern_depth_of_bound b) (few_of_bound b) (below_bound b n) (list_all use_test (occurrences_in_bound b)) d

  abbrev FitBodies : List PBound → ℕ → ℕ → Type 0
  FitBodies bs n d = Fit (greatest (map pattern_depth_of_bound bs)) (all_pass (map few_of_bound bs)) (all_at_scope n (map below_bound bs)) (list_all use_test (flat_map occurrences_in_bound bs)) d

  abbrev pub FitArgs : List Pattern → ℕ → ℕ → Type 0
  FitArgs ps n d = Fit (greatest (map pattern_depth_of ps)) (all_pass (map few_of ps)) (all_at_scope n (map below ps)) (list_all use_test (flat_map occurrences_in ps)) d

  abbrev Told : RawPattern → Type 0
  Told p = (env : List Sym) (d : ℕ) → Tells (node_faults known final p env d) (FitOf (pattern_of p env) (length env) d)

  var_told : (n : Sym) (l : ℕ) → Told (raw.Var n l)
  var_told n l env d =
      let o = level_in env n in
      subst (λ fs. Tells fs (FitOf (pattern_of (raw.Var n l) env) (length env) d)) (sym (node_faults-Var known final n l env d))
      (subst (λ p. Tells (deep d l ++ unless_bound l o) (FitOf p (length env) d)) (sym (pattern_of-Var n l env))
      (tells_by (deep d l ++ unless_bound l o) (tells_both (deep d l) (unless_bound l o) (tells_deep d l) bound) (λ q. fits q.0 q.1) (λ h. (shallow h.depth, sym (below-Var (level o) (length env)) ∙ h.range))))
    where
      level : Option ℕ → ℕ
      level o = unwrap_or o 0

      in_range : (o : Option ℕ) → o ≡ level_in env n → Tells (unless_bound l o) (nat_lt (unwrap_or o 0) (length env) ≡ true)
      in_range None e = record { kept = λ f. absurd cc; told = λ f. (refl, tt) }
      in_range (Some i) e = record { kept = λ f. level_small env (place_in env n) i (λ j g. let small = place_below env n j g in grind (arith, nat_tests, small)) (sym e); told = λ f. tt }

      bound : Tells (unless_bound l (level_in env n)) (nat_lt (unwrap_or (level_in env n) 0) (length env) ≡ true)
      bound = in_range (level_in env n) refl

      fits : d ≤ 200 → nat_lt (unwrap_or (level_in env n) 0) (length env) ≡ true → FitOf (pat.Var (unwrap_or (level_in env n) 0)) (length env) d
      fits few lt =
          let v = unwrap_or (level_in env n) 0 in
          let one = pattern_depth_of-Var v in
          record { depth = omega (arith, one, few); few = few_of-Var v; range = below-Var v (length env) ∙ lt; used = ap (list_all use_test) (occurrences_in-Var v) }

      shallow : pattern_depth_of (pat.Var (unwrap_or (level_in env n) 0)) ≤ 201 - d → d ≤ 200
      shallow h = let one = pattern_depth_of-Var (unwrap_or (level_in env n) 0) in omega (arith, one, h)

  bound_told : (k : RawPatternBound) → Told k.body → (env : List Sym) (d : ℕ) → Tells (bound_node_faults known final k env d) (FitBound (bound_of k env) (length env) d)
  bound_told k ih env d =
      let inner = env ++ names_of k.binders in
      let many = too_many (λ (c : RawName). c.at) 8 k.binders in
      subst (λ fs. Tells fs (FitBound (bound_of k env) (length env) d)) (sym (bound_node_faults-is known final k env d))
      (subst (λ b. Tells (many ++ node_faults known final k.body inner d) (FitBound b (length env) d)) (sym (bound_of-is k env))
      (tells_by (many ++ node_faults known final k.body inner d) (tells_both many (node_faults known final k.body inner d) (tells_past (λ (c : RawName). c.at) why.TooMany 8 k.binders) (ih inner d))
      (λ q. fit_by (sym depth) (sym few) (sym range) (sym used) (record { depth = q.1.depth; few = and_from _ _ q.0 q.1.few; range = q.1.range; used = q.1.used }))
      (λ h. let f = fit_by depth few range used h in let parts = and_parts (nat_le (length k.binders) 8) (few_of (pattern_of k.body inner)) f.few in (parts.0, record { depth = f.depth; few = parts.1; range = f.range; used = f.used }))))
    where
      body : Pattern
      body = pattern_of k.body (env ++ names_of k.binders)

      value : PBound
      value = record { binders = length k.binders; body = pattern_of k.body (env ++ names_of k.binders) }

      wide : length env + length k.binders ≡ length (env ++ names_of k.binders)
      wide = let a = length-append env (names_of k.binders) in let b = length-map k.binders (λ (c : RawName). c.name) in omega (arith, a, b)

      depth : pattern_depth_of_bound (record { binders = length k.binders; body = pattern_of k.body (env ++ names_of k.binders) }) ≡ pattern_depth_of (pattern_of k.body (env ++ names_of k.binders))
      depth = pattern_depth_of_bound-is _

      few : few_of_bound (record { binders = length k.binders; body = pattern_of k.body (env ++ names_of k.binders) }) ≡ (nat_le (length k.binders) 8 && few_of (pattern_of k.body (env ++ names_of k.binders)))
      few = few_of_bound-is _

      range : below_bound (record { binders = length k.binders; body = pattern_of k.body (env ++ names_of k.binders) }) (length env) ≡ below (pattern_of k.body (env ++ names_of k.binders)) (length (env ++ names_of k.binders))
      range = below_bound-is _ (length env) ∙ ap (below (pattern_of k.body (env ++ names_of k.binders))) wide

      used : list_all use_test (occurrences_in_bound (record { binders = length k.binders; body = pattern_of k.body (env ++ names_of k.binders) })) ≡ list_all use_test (occurrences_in (pattern_of k.body (env ++ names_of k.binders)))
      used = ap (list_all use_test) (occurrences_in_bound-is _)

  bodies_told : (ks : List RawPatternBound) → OfEachBody Told ks → (env : List Sym) (d : ℕ) → Tells (each_faults (map (bound_node_faults known final) ks) env d) (FitBodies (each_pattern_value (map bound_of ks) env) (length env) d)
  bodies_told [] ih env d = record { kept = λ e. record { depth = omega arith; few = refl; range = refl; used = refl }; told = λ q. tt }
  bodies_told (k ∷ ks) ih env d =
      let here = bound_node_faults known final k env d in
      let rest = each_faults (map (bound_node_faults known final) ks) env d in
      let both = list_all-append use_test (occurrences_in_bound (bound_of k env)) (flat_map occurrences_in_bound (each_pattern_value (map bound_of ks) env)) in
      tells_by (here ++ rest) (tells_both here rest (bound_told k ih.0 env d) (bodies_told ks ih.1 env d)) (λ q. fit_by refl refl refl (sym both) (fit_join q.0 q.1)) (λ h. fit_parts (fit_by refl refl refl both h))

  args_told : (xs : List RawPattern) → OfEachArg Told xs → (env : List Sym) (d : ℕ) → Tells (each_faults (map (node_faults known final) xs) env d) (FitArgs (each_pattern_value (map pattern_of xs) env) (length env) d)
  args_told [] ih env d = record { kept = λ e. record { depth = omega arith; few = refl; range = refl; used = refl }; told = λ q. tt }
  args_told (x ∷ xs) ih env d =
      let here = node_faults known final x env d in
      let rest = each_faults (map (node_faults known final) xs) env d in
      let both = list_all-append use_test (occurrences_in (pattern_of x env)) (flat_map occurrences_in (each_pattern_value (map pattern_of xs) env)) in
      tells_by (here ++ rest) (tells_both here rest (ih.0 env d) (args_told xs ih.1 env d)) (λ q. fit_by refl refl refl (sym both) (fit_join q.0 q.1)) (λ h. fit_parts (fit_by refl refl refl both h))

  -- a depth and one more
  deeper : (d m : ℕ) → d ≤ 200 → m ≤ 201 - (d + 1) → 1 + m ≤ 201 - d
  deeper d m few h = omega (arith, few, h)

  not_deeper : (d m : ℕ) → 1 + m ≤ 201 - d → (d ≤ 200) × (m ≤ 201 - (d + 1))
  not_deeper d m h = (omega (arith, h), omega (arith, h))

  op_told : (n : Sym) (ps : List RawParamPat) (ks : List RawPatternBound) (l : ℕ) → OfEachBody Told ks → Told (raw.Op n ps ks l)
  op_told n ps ks l ih env d =
      let subs = each_pattern_value (map bound_of ks) env in
      let params = map param_value ps in
      let rest = each_faults (map (bound_node_faults known final) ks) env (d + 1) in
      let many = too_many param_place 16 ps in
      let same : length params ≡ length ps = length-map ps param_value in
      let depth = pattern_depth_of-Op n params subs in
      let few = few_of-Op n params subs ∙ ap (λ k. nat_le k 16 && all_pass (map few_of_bound subs)) same in
      let range = below-Op n params subs (length env) in
      let used = ap (list_all use_test) (occurrences_in-Op n params subs) in
      subst (λ fs. Tells fs (FitOf (pattern_of (raw.Op n ps ks l) env) (length env) d)) (sym (node_faults-Op known final n ps ks l env d))
      (subst (λ p. Tells (deep d l ++ many ++ rest) (FitOf p (length env) d)) (sym (pattern_of-Op n ps ks l env))
      (tells_by (deep d l ++ many ++ rest) (tells_both (deep d l ++ many) rest (tells_both (deep d l) many (tells_deep d l) (tells_past param_place why.TooMany 16 ps)) (bodies_told ks ih env (d + 1)))
      (λ q. fit_by (sym depth) (sym few) (sym range) (sym used) (record { depth = deeper d _ q.0.0 q.1.depth; few = and_from _ _ q.0.1 q.1.few; range = q.1.range; used = q.1.used }))
      (λ h.
      let f = fit_by depth few range used h in
      let low = not_deeper d (greatest (map pattern_depth_of_bound subs)) f.depth in
      let parts = and_parts (nat_le (length ps) 16) (all_pass (map few_of_bound subs)) f.few in
      ((low.0, parts.0), record { depth = low.1; few = parts.1; range = f.range; used = f.used }))))

  meta_told : (n : Sym) (cs : List RawName) (xs : List RawPattern) (l : ℕ) → OfEachArg Told xs → Told (raw.Meta n cs xs l)
  meta_told n cs xs l ih env d =
      let args = each_pattern_value (map pattern_of xs) env in
      let uses = use_faults known final cs (map argument_of xs) in
      let rest = each_faults (map (node_faults known final) xs) env (d + 1) in
      let depth = pattern_depth_of-Meta n (syms_of cs) args in
      let few = few_of-Meta n (syms_of cs) args in
      let range = below-Meta n (syms_of cs) args (length env) in
      let used = ap (list_all use_test) (occurrences_in-Meta n (syms_of cs) args) in
      let counts = nat_le (length (syms_of cs)) 8 && nat_le (length args) 8 in
      let test = is_used_well (syms_of cs) (map variable_level args) in
      subst (λ fs. Tells fs (FitOf (pattern_of (raw.Meta n cs xs l) env) (length env) d)) (sym (node_faults-Meta known final n cs xs l env d))
      (subst (λ p. Tells (deep d l ++ uses ++ rest) (FitOf p (length env) d)) (sym (pattern_of-Meta n cs xs l env))
      (tells_by (deep d l ++ uses ++ rest)
      (tells_then {P = (d ≤ 200) × UseFits cs xs env} (deep d l ++ uses) rest (λ e f. let p = nil_parts (deep d l) uses e in ((tells_deep d l).kept p.0, use_kept cs xs env (d + 1) p.1 f)) (λ q. only_both (deep d l) uses ((tells_deep d l).told q.0) (use_told cs xs env q.1))
      (args_told xs ih env (d + 1)))
      (λ q. fit_by (sym depth) (sym few) (sym range) (sym used) (record { depth = deeper d _ q.0.0 q.1.depth; few = and_from counts _ q.0.1.0 q.1.few; range = q.1.range; used = and_from test _ q.0.1.1 q.1.used }))
      (λ h.
      let f = fit_by depth few range used h in
      let low = not_deeper d (greatest (map pattern_depth_of args)) f.depth in
      let parts = and_parts counts (all_pass (map few_of args)) f.few in
      let tests = and_parts test (list_all use_test (flat_map occurrences_in args)) f.used in
      ((low.0, (parts.0, tests.0)), record { depth = low.1; few = parts.1; range = f.range; used = tests.1 }))))

  -- the faults of the nodes of a pattern tell whether what it stands for fits
  pub nodes_told : (p : RawPattern) (env : List Sym) (d : ℕ) → Tells (node_faults known final p env d) (FitOf (pattern_of p env) (length env) d)
  nodes_told = each_raw Told var_told op_told meta_told

  pub each_told : (xs : List RawPattern) (env : List Sym) (d : ℕ) → Tells (each_faults (map (node_faults known final) xs) env d) (FitArgs (each_pattern_value (map pattern_of xs) env) (length env) d)
  each_told xs = args_told xs (each_args Told var_told op_told meta_told xs)
