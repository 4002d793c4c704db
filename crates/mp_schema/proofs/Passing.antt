-- The values of a conclusion pass what the goal passes.
use Rattle.std.proofs.Common.{◌≡◌, inl, inr, ℕ, ◌+◌, List, [], ◌∷◌, ◌++◌, map, Bool, true, false, Option, Some, None, suc, refl, sym, ap, ◌∙◌, subst}
use Rattle.std.specs.Prelude.{not}
use Rattle.std.specs.List.{flat_map, list_all, AllByRecursion}
use Rattle.mp_logic.specs.declared.sym.Sym.{Sym}
use Rattle.mp_term.specs.declared.term.Term.{Term, Var}
use Rattle.mp_term.specs.declared.term.Bound.{Bound}
use Rattle.mp_term.specs.Subst.{variables}
use Rattle.mp_schema.specs.declared.pattern.Pattern.{Pattern}
use Rattle.mp_schema.specs.declared.pattern.Pattern as pat
use Rattle.mp_schema.specs.declared.pattern.ParamPat.{ParamPat}
use Rattle.mp_schema.specs.declared.pattern.PBound.{PBound}
use Rattle.mp_schema.specs.declared.schema.Item.{Item}
use Rattle.mp_schema.specs.declared.schema.Item.TheVariants.{Ctx, Hyp}
use Rattle.mp_schema.specs.declared.schema.Schema.{Schema}
use Rattle.mp_schema.specs.Faults.{are_distinct, has_level}
use Rattle.mp_schema.specs.Instances.{Values, Ground, made_each, param_of, inst_of, inst_bound}
use Rattle.mp_schema.specs.Induction.{each_pattern, OfEachBody, OfEachArg}
use Rattle.mp_schema.specs.Occurrences.{Occurrence, occurrences_in, occurrences_in_bound, occurrences_in_item, occurrences_in_schema, variable_level, In}
use Rattle.mp_schema.specs.Sequents.{Instance, Spot, first_spot, ground_at, telescope, behind, hyps_from, behind_all, concl_at, seq}
use Rattle.mp_schema.proofs.Layers.{inst-Op, inst-Meta, inst_bound-is, level_of-Op, level_of-Meta, occurrences_in-Var, occurrences_in-Op, occurrences_in-Meta, occurrences_in_bound-is}
use Rattle.mp_schema.proofs.Lists.{in-left, in-right, in-split, list_all-append}
use Rattle.mp_schema.proofs.UseKinds.{Kind, kind_of, context_at, plain}
use Rattle.mp_schema.proofs.Agreeing.{and_both}
use Rattle.mp_schema.proofs.Before.{IsInherited}

-- ## Arguments that are variables

abbrev IsBare : Pattern → Type 0
IsBare p = (l : ℕ) → variable_level p ≡ Some l → occurrences_in p ≡ []

bare : (p : Pattern) → IsBare p
bare =
    each_pattern IsBare (λ i l e. occurrences_in-Var i)
    (λ o ps subs h l e. let k = level_of-Op o ps subs in absurd cc)
    (λ n cs args h l e. let k = level_of-Meta n cs args in absurd cc)

first_is_level : (o : Option ℕ) (rest : List (Option ℕ)) → are_distinct (o ∷ rest) ≡ true → ((l : ℕ) × (o ≡ Some l)) × (are_distinct rest ≡ true)
first_is_level None rest e = absurd cc
first_is_level (Some l) rest e = ((l, refl), (and_both (not (has_level rest l)) (are_distinct rest) e).1)

-- nothing occurs in arguments that are distinct variables
pub no_occurrence : (args : List Pattern) → are_distinct (map variable_level args) ≡ true → flat_map occurrences_in args ≡ []
no_occurrence [] e = refl
no_occurrence (a ∷ rest) e =
    let k = first_is_level (variable_level a) (map variable_level rest) e in
    let here = bare a k.0.0 k.0.1 in
    let there = no_occurrence rest k.1 in
    rw (here, there) refl

-- ## Patterns

module _ (test : Term → Bool) (inherited : IsInherited test) where
  module _ (g : Ground) (v : Values) where
    abbrev OnVariables : List Occurrence → Type 0
    OnVariables os = (o : Occurrence) → In o os → are_distinct o.levels ≡ true

    abbrev MetasPass : List Occurrence → Type 0
    MetasPass os = (o : Occurrence) → In o os → test (v.meta o.name) ≡ true

    abbrev Passed : Pattern → Type 0
    Passed p = OnVariables (occurrences_in p) → (env : List Term) (m : ℕ) → test (inst_of g v p env m) ≡ true → MetasPass (occurrences_in p)

    passed_bodies : (subs : List PBound) → OfEachBody Passed subs → OnVariables (flat_map occurrences_in_bound subs) → (env : List Term) (m : ℕ) →
        AllByRecursion (λ (b : Bound). test b.body ≡ true) (made_each (map (inst_bound g v) subs) env m) → MetasPass (flat_map occurrences_in_bound subs)
    passed_bodies [] all on env m e o i = absurd i
    passed_bodies (b ∷ bs) all on env m e o i =
        let body : test (inst_of g v b.body (env ++ variables m b.binders) (m + b.binders)) ≡ true = subst (λ (x : Bound). test x.body ≡ true) (inst_bound-is g v b env m) e.0 in
        let here = all.0 (λ x j. on x (in-left x (occurrences_in_bound b) (flat_map occurrences_in_bound bs) (subst (In x) (sym (occurrences_in_bound-is b)) j))) (env ++ variables m b.binders) (m + b.binders) body in
        let there = passed_bodies bs all.1 (λ x j. on x (in-right x (occurrences_in_bound b) (flat_map occurrences_in_bound bs) j)) env m e.1 in
        elim (in-split o (occurrences_in_bound b) (flat_map occurrences_in_bound bs) i) [
          | inl j ↦ here o (subst (In o) (occurrences_in_bound-is b) j)
          | inr j ↦ there o j
        ]

    passed_op : (o : Sym) (ps : List ParamPat) (subs : List PBound) → OfEachBody Passed subs → Passed (pat.Op o ps subs)
    passed_op o ps subs all on env m e x i =
        let bodies = inherited.bodies o (map (param_of v) ps) (made_each (map (inst_bound g v) subs) env m) (ap test (sym (inst-Op g v o ps subs env m)) ∙ e) in
        passed_bodies subs all (λ y j. on y (subst (In y) (sym (occurrences_in-Op o ps subs)) j)) env m bodies x (subst (In x) (occurrences_in-Op o ps subs) i)

    abbrev at : Sym → List Sym → List Pattern → Occurrence
    at n cs args = record { is_context = false; name = n; ctxs = cs; levels = map variable_level args }

    meta_case : (n : Sym) (cs : List Sym) (args : List Pattern) → test (v.meta n) ≡ true → flat_map occurrences_in args ≡ [] → MetasPass (at n cs args ∷ flat_map occurrences_in args)
    meta_case n cs args e none o (inl same) = ap (λ (x : Occurrence). test (v.meta x.name)) (sym same) ∙ e
    meta_case n cs args e none o (inr i) = absurd (subst (In o) none i)

    passed_meta : (n : Sym) (cs : List Sym) (args : List Pattern) → OfEachArg Passed args → Passed (pat.Meta n cs args)
    passed_meta n cs args all on env m e x i =
        let here = inherited.before (v.meta n) _ m (ap test (sym (inst-Meta g v n cs args env m)) ∙ e) in
        let distinct = on (at n cs args) (subst (In (at n cs args)) (sym (occurrences_in-Meta n cs args)) (inl refl)) in
        meta_case n cs args here (no_occurrence args distinct) x (subst (In x) (occurrences_in-Meta n cs args) i)

    pub passed : (p : Pattern) → Passed p
    passed = each_pattern Passed (λ l on env m e o i. absurd (subst (In o) (occurrences_in-Var l) i)) passed_op passed_meta

  -- ## Schemata

  module _ (v : Instance) where
    abbrev pub PassValue : Bool → Sym → Type 0
    PassValue true name = list_all test (v.kept name) ≡ true
    PassValue false name = test (v.values.meta name) ≡ true

    -- the value of the occurrence passes
    abbrev pub PassAt : Kind → Type 0
    PassAt k = PassValue k.is_context k.name

    abbrev AllPass : List Occurrence → Type 0
    AllPass os = (o : Occurrence) → In o os → PassAt (kind_of o)

    abbrev AllOnVariables : List Occurrence → Type 0
    AllOnVariables os = (o : Occurrence) → In o os → are_distinct o.levels ≡ true

    pattern_pass : (l : Spot) (p : Pattern) → AllOnVariables (occurrences_in p) → test (concl_at v p l) ≡ true → AllPass (occurrences_in p)
    pattern_pass l p on e o i =
        subst (λ b. PassValue b o.name) (sym (plain p o i)) (passed (ground_at v l.pos) v.values p on (map Var l.env) l.next e o i)

    telescope_pass : (l : Spot) (ctxs : List Sym) (args : List Pattern) (c j : ℕ) (ts : List Term) → list_all test (telescope v l ctxs args c j ts) ≡ true → list_all test ts ≡ true
    telescope_pass l ctxs args c j [] e = refl
    telescope_pass l ctxs args c j (t ∷ ts) e =
        let both = and_both _ (list_all test (telescope v l ctxs args c (suc j) ts)) e in
        let here = inherited.before t _ (c + j) both.0 in
        let rest = telescope_pass l ctxs args c (suc j) ts both.1 in
        rw (here, rest) refl

    context_case : (name : Sym) (ctxs : List Sym) (args : List Pattern) → list_all test (v.kept name) ≡ true → flat_map occurrences_in args ≡ [] → AllPass (context_at name ctxs args ∷ flat_map occurrences_in args)
    context_case name ctxs args e none o (inl same) = subst (λ (x : Occurrence). PassAt (kind_of x)) same e
    context_case name ctxs args e none o (inr i) = absurd (subst (In o) none i)

    items_pass : (items : List Item) (l : Spot) → AllOnVariables (flat_map occurrences_in_item items) → list_all test (hyps_from v items l) ≡ true → AllPass (flat_map occurrences_in_item items)
    items_pass [] l on e o i = absurd i
    items_pass (Hyp p ∷ is) l on e o i =
        let both = and_both (test (concl_at v p l)) (list_all test (hyps_from v is (behind v (Hyp p) l))) e in
        let here = pattern_pass l p (λ x j. on x (in-left x (occurrences_in p) (flat_map occurrences_in_item is) j)) both.0 in
        let there = items_pass is (behind v (Hyp p) l) (λ x j. on x (in-right x (occurrences_in p) (flat_map occurrences_in_item is) j)) both.1 in
        elim (in-split o (occurrences_in p) (flat_map occurrences_in_item is) i) [ inl j ↦ here o j | inr j ↦ there o j ]
    items_pass (Ctx name ctxs args ∷ is) l on e o i =
        let tele = telescope v l ctxs args l.next 0 (v.kept name) in
        let both = and_both (list_all test tele) (list_all test (hyps_from v is (behind v (Ctx name ctxs args) l)))
        (sym (list_all-append test tele (hyps_from v is (behind v (Ctx name ctxs args) l))) ∙ e) in
        let here = telescope_pass l ctxs args l.next 0 (v.kept name) both.0 in
        let distinct = on (context_at name ctxs args) (inl refl) in
        let there = items_pass is (behind v (Ctx name ctxs args) l) (λ x j. on x (in-right x (occurrences_in_item (Ctx name ctxs args)) (flat_map occurrences_in_item is) j)) both.1 in
        elim (in-split o (context_at name ctxs args ∷ flat_map occurrences_in args) (flat_map occurrences_in_item is) i) [
          | inl j ↦ context_case name ctxs args here (no_occurrence args distinct) o j
          | inr j ↦ there o j
        ]

    pub schema_pass : (s : Schema) → AllOnVariables (occurrences_in_schema s) → list_all test (seq v s).hyps ≡ true → test (seq v s).concl ≡ true → AllPass (occurrences_in_schema s)
    schema_pass s on hyps concl o i =
        let here = items_pass s.items first_spot (λ x j. on x (in-left x (flat_map occurrences_in_item s.items) (occurrences_in s.concl) j)) hyps in
        let there = pattern_pass (behind_all v s.items first_spot) s.concl (λ x j. on x (in-right x (flat_map occurrences_in_item s.items) (occurrences_in s.concl) j)) concl in
        elim (in-split o (flat_map occurrences_in_item s.items) (occurrences_in s.concl) i) [ inl j ↦ here o j | inr j ↦ there o j ]
