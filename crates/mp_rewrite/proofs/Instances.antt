-- The instances of a faultless rewrite's redex: they agree on what is made of them, and their values are tame.
use Rattle.std.proofs.Common.{◌≡◌, ◌≤◌, ◌<◌, ◌⊎◌, inl, inr, ℕ, ◌+◌, ◌-◌, suc, List, [], ◌∷◌, ◌++◌, map, length, sum, Bool, true, false, nat_eq, Option, Some, None, if◌then◌else◌, IsTrue, append-nil, refl, sym, ap, ◌∙◌, subst, arith}
use Rattle.std.specs.Prelude.{All, ◌||◌, is_some}
use Rattle.std.specs.List.{IsDistinct, list_all, flat_map}
use Rattle.std.proofs.lemmas.Bool.Decides.{nat_tests}
use Rattle.std.proofs.lemmas.Grind.{common_steps}
use Rattle.mp_logic.specs.declared.sym.Sym.{Sym}
use Rattle.mp_term.specs.declared.term.Term.{Term, Var, Op}
use Rattle.mp_term.specs.declared.term.Bound.{Bound}
use Rattle.mp_term.specs.Terms.{size_of, depth_of, in_scope_of}
use Rattle.mp_term.specs.Limits.{is_shallow, few_binders_of}
use Rattle.mp_term.specs.Subst.{upto}
use Rattle.mp_term.proofs.Layers.{few-Var, depth-Var, size_bound, size-Op, size_bound-is}
use Rattle.mp_term.proofs.EqualTerms.{both_true}
use Rattle.mp_term.proofs.Ranges.{length-upto}
use Rattle.mp_schema.specs.declared.instance.CtxVal.{CtxVal}
use Rattle.mp_schema.specs.declared.instance.MetaVal.{MetaVal}
use Rattle.mp_schema.specs.declared.instance.Inst.{Inst}
use Rattle.mp_schema.specs.declared.pattern.Pattern.{Pattern}
use Rattle.mp_schema.specs.Conditions.{nothing_before, below, has, has_all, is_known, lists_known, pattern_placed, seen}
use Rattle.mp_schema.specs.Faultless.{IsFaultlessRewrite, IsLimited}
use Rattle.mp_schema.specs.Faults.{rewrite_fault_of, rewrite_is_on_variables, on_variables, are_distinct}
use Rattle.mp_schema.specs.Instances.{inst_of, fits}
use Rattle.mp_schema.specs.Limits.{few_of, is_shallow_pattern, pattern_depth_of}
use Rattle.mp_schema.specs.Occurrences.{In, Occurrence, occurrences_in, holes_in, first_named}
use Rattle.mp_schema.specs.Sequents.{Instance, wide_of, ground_at}
use Rattle.mp_schema.specs.Solutions.{Agrees, ambient_only, GivesTerm}
use Rattle.mp_schema.specs.Values.{find_ctx, find_meta, body_or, kept_or, instance_of}
use Rattle.mp_schema.proofs.Agreeing.{same_inst}
use Rattle.mp_schema.proofs.Apart.{Apart-to, Below-to, Apart-upto, Below-upto}
use Rattle.mp_schema.proofs.Before.{IsInherited, few_inherited, shallow_inherited}
use Rattle.mp_schema.proofs.Conditional.{KeepsRewrite-from}
use Rattle.mp_schema.proofs.Fitting.{meta_fits, fits-told}
use Rattle.mp_schema.proofs.Laws.{rewrites_are_faultless, conditions_do_fit}
use Rattle.mp_schema.proofs.Lists.{in-all, in-flat, in-left, in-right, all-in, each-all, in-each, find-Some, find-None}
use Rattle.mp_schema.proofs.OnePattern.{one_pattern}
use Rattle.mp_schema.proofs.Passing.{passed}
use Rattle.mp_schema.proofs.UseKinds.{same_name, nat_eq-itself}
use Rattle.mp_build.specs.Built.{term_of}
use Rattle.mp_build.specs.Laws.{IsTameTerm, IsTame, HasFewBinders}
use Rattle.mp_build.proofs.Laws.{term_is_in_scope, term_has_few_binders, pattern_is_narrow, plain_instance, plain_fits}
use Rattle.mp_rewrite.specs.Building.{IsReady}
use Rattle.mp_rewrite.specs.RewriteStep.{made_by}

-- ## Lists

pub all_in : {X : Type 0} (P : X → Type 0) (xs : List X) (x : X) → All P xs → In x xs → P x
all_in P [] x h i = absurd i
all_in P (y ∷ ys) x h (inl e) = subst P e (h 0 y (omega arith))
all_in P (y ∷ ys) x h (inr i) = all_in P ys x (λ k d lt. h (suc k) d (omega arith)) i

has-in : (xs : List Sym) (name : Sym) → has xs name ≡ true → In name xs
has-in [] name e = absurd cc
has-in (x ∷ xs) name e = by (nat_eq x.0 name.0) refl e (has-in xs name)
  where
    by : (b : Bool) → nat_eq x.0 name.0 ≡ b → (b || has xs name) ≡ true → (has xs name ≡ true → In name xs) → In name (x ∷ xs)
    by true t k rest = inl (same_name x name t)
    by false t k rest = inr (rest k)

has_all-in : (known names : List Sym) (name : Sym) → has_all known names ≡ true → In name names → In name known
has_all-in known [] name e i = absurd i
has_all-in known (x ∷ xs) name e (inl same) = has-in known name (ap (has known) (sym same) ∙ (both_true (has known x) (has_all known xs) e).0)
has_all-in known (x ∷ xs) name e (inr i) = has_all-in known xs name (both_true (has known x) (has_all known xs) e).1 i

-- ## Names

-- an occurrence of this name
pub record NamedIn (os : List Occurrence) (name : Sym) : Type 0 where
  pub o : Occurrence
  pub there : In o os
  pub named : o.name ≡ name

named_or_not : (os : List Occurrence) (name : Sym) → NamedIn os name ⊎ ((o : Occurrence) → In o os → nat_eq o.name.0 name.0 ≡ false)
named_or_not os name = by (first_named os name) refl
  where
    by : (r : Option Occurrence) → first_named os name ≡ r → NamedIn os name ⊎ ((o : Occurrence) → In o os → nat_eq o.name.0 name.0 ≡ false)
    by (Some o) e = let k = find-Some (λ x. nat_eq x.name.0 name.0) os o e in inl (record { o = o; there = k.0; named = same_name o.name name k.1 })
    by None e = inr (λ o i. find-None (λ x. nat_eq x.name.0 name.0) os o e i)

named_from : (os : List Occurrence) (name : Sym) → is_some (first_named os name) ≡ true → NamedIn os name
named_from os name e = by (first_named os name) refl e
  where
    by : (r : Option Occurrence) → first_named os name ≡ r → is_some r ≡ true → NamedIn os name
    by (Some o) k h = let f = find-Some (λ x. nat_eq x.name.0 name.0) os o k in record { o = o; there = f.0; named = same_name o.name name f.1 }
    by None k h = absurd cc

-- ## What is made of the values

-- a pattern without levels and contexts, within the limits, each of whose names the redex has
pub record IsSound (redex p : Pattern) : Type 0 where
  pub closed : below p 0 ≡ true
  pub plain : lists_known [] p ≡ true
  pub few : few_of p ≡ true
  pub shallow : is_shallow_pattern p ≡ true
  pub named : (o : Occurrence) → In o (occurrences_in p) → NamedIn (occurrences_in redex) o.name
  pub filled : (name : Sym) → In name (holes_in p) → In name (holes_in redex)

shallow_from : (p : Pattern) → pattern_depth_of p ≤ 200 → is_shallow_pattern p ≡ true
shallow_from p h = grind (arith, nat_tests, h)

on_variables_from : (conds : List Pattern) (redex contractum : Pattern) → rewrite_fault_of conds redex contractum ≡ None → on_variables (occurrences_in redex) ≡ true
unfolding rewrite_is_on_variables
on_variables_from conds redex contractum e = (KeepsRewrite-from conds redex contractum e).on_variables

module _ (conds : List Pattern) (redex contractum : Pattern) (whole : rewrite_fault_of conds redex contractum ≡ None) where
  f : IsFaultlessRewrite conds redex contractum
  f = rewrites_are_faultless conds redex contractum whole

  abbrev known : List Occurrence
  known = occurrences_in redex

  pub fine : (seen redex).fine 0 ≡ true
  fine = f.fine

  pub redex_plain : lists_known [] redex ≡ true
  redex_plain = (both_true (below redex 0) (lists_known [] redex) f.placed_redex).1

  named : (o : Occurrence) → In o (flat_map occurrences_in conds ++ occurrences_in contractum) → NamedIn known o.name
  named o i = named_from known o.name (all-in (λ (x : Occurrence). is_some (first_named known x.name)) (flat_map occurrences_in conds ++ occurrences_in contractum) o f.bound i)

  pub sound_contractum : IsSound redex contractum
  sound_contractum =
      let placed = both_true (below contractum 0) (lists_known [] contractum) f.placed_contractum in
      let limits = f.limited_contractum in
      record {
        closed = placed.0;
        plain = placed.1;
        few = limits.few;
        shallow = shallow_from contractum limits.shallow;
        named = λ o i. named o (in-right o (flat_map occurrences_in conds) (occurrences_in contractum) i);
        filled = λ name i. has_all-in (holes_in redex) (holes_in contractum) name f.filled_contractum i;
      }

  pub sound_condition : (p : Pattern) → In p conds → IsSound redex p
  sound_condition p j =
      let placed = both_true (below p 0) (lists_known [] p) (all_in (λ q. IsTrue (pattern_placed q nothing_before)) conds p f.placed j) in
      let limits = all_in IsLimited conds p f.limited j in
      record {
        closed = placed.0;
        plain = placed.1;
        few = limits.few;
        shallow = shallow_from p limits.shallow;
        named = λ o i. named o (in-left o (flat_map occurrences_in conds) (occurrences_in contractum) (in-flat occurrences_in conds p o j i));
        filled = λ name i. has_all-in (holes_in redex) (holes_in p) name (all_in (λ q. IsTrue (has_all (holes_in redex) (holes_in q))) conds p f.filled j) i;
      }

  -- ## Two instances that give one term

  module _ (scope : ℕ) (t : Term) where
    distinct : (cs : List Sym) → is_known [] cs ≡ true → IsDistinct nat_eq (ambient_only scope cs ++ [])
    distinct cs h = rw (append-nil (upto 0 scope)) (Apart-to (upto 0 scope) (Apart-upto 0 scope))

    low : (cs : List Sym) → is_known [] cs ≡ true → All (λ l. l < scope) (ambient_only scope cs ++ [])
    low cs h = rw (append-nil (upto 0 scope)) (let e : 0 + scope ≡ scope = omega arith in Below-to scope (upto 0 scope) (rw e at (Below-upto 0 scope)))

    module _ (v w : Instance) (gives_v : GivesTerm scope redex t v) (gives_w : GivesTerm scope redex t w) where
      one : ((o : Occurrence) → In o (occurrences_in redex) → v.values.meta o.name ≡ w.values.meta o.name) × ((name : Sym) → In name (holes_in redex) → v.values.param name ≡ w.values.param name)
      one =
          let z : scope - scope ≡ 0 = omega arith in
          let same = gives_v.same ∙ sym gives_w.same in
          one_pattern (ambient_only scope) (ambient_only scope) (λ names. scope) (λ names. scope) [] v.values w.values [] scope (λ cs h. refl) (λ cs. length-upto 0 scope)
          (λ cs. length-upto 0 scope) distinct low redex scope (omega arith) (subst (λ n. (seen redex).fine (0 + n) ≡ true) (sym z) fine) redex_plain gives_v.fit gives_w.fit
          (subst (λ n. inst_of (ambient_only scope) v.values redex (map Var (upto scope n)) scope ≡ inst_of (ambient_only scope) w.values redex (map Var (upto scope n)) scope) (sym z) same)

      -- they make one term of each condition and of the contractum
      pub same_term : (p : Pattern) → IsSound redex p → made_by scope v p ≡ made_by scope w p
      same_term p s =
          same_inst (ambient_only scope) (ambient_only scope) v.values w.values p
          (λ o i. let k = s.named o i in (subst (λ n. v.values.meta n ≡ w.values.meta n) k.named (one.0 k.o k.there), refl)) (λ name i. one.1 name (s.filled name i)) [] scope

    -- the values fit what is made of them
    module _ (v : Instance) (gives : GivesTerm scope redex t v) where
      fit_all : All (λ p. IsTrue (fits (λ names. scope) v.values p)) conds × IsTrue (fits (λ names. scope) v.values contractum)
      fit_all = conditions_do_fit (λ names. scope) v.values conds redex contractum whole gives.fit

      pub contractum_fits : fits (λ names. scope) v.values contractum ≡ true
      contractum_fits = fit_all.1

      pub condition_fits : (p : Pattern) → In p conds → fits (λ names. scope) v.values p ≡ true
      condition_fits p i = all_in (λ q. IsTrue (fits (λ names. scope) v.values q)) conds p fit_all.0 i

-- ## Another value

abbrev larger : Term → Term
larger t = let b : Bound = record { binders = 0; body = t } in let o : Sym = record { 0 = 0 } in Op o [] (b ∷ [])

size-larger : (t : Term) → size_of (larger t) ≡ 1 + size_of t
size-larger t =
    let b : Bound = record { binders = 0; body = t } in
    let o : Sym = record { 0 = 0 } in
    let e = size-Op o [] (b ∷ []) in
    let one : sum (map size_bound (b ∷ [])) ≡ size_bound b = grind (arith, common_steps) in
    let k = size_bound-is b in
    omega (arith, e, one, k)

larger-differs : (t : Term) → larger t ≡ t → ⊥
larger-differs t e = let s = size-larger t in let k = ap size_of e in absurd (omega (arith, s, k))

module _ (v : Instance) (name : Sym) (u : Term) where
  -- the instance with this value for the name
  abbrev changed : Instance
  changed = record v { values = record v.values { meta = λ n. if nat_eq n.0 name.0 then u else v.values.meta n } }

  meta_other : (other : Sym) → nat_eq other.0 name.0 ≡ false → changed.values.meta other ≡ v.values.meta other
  meta_other other e = rw e refl

  meta_here : changed.values.meta name ≡ u
  meta_here = let e = nat_eq-itself name.0 in rw e refl

  -- it gives the term where the pattern doesn't have the name
  changed_gives : (scope : ℕ) (p : Pattern) (t : Term) → ((o : Occurrence) → In o (occurrences_in p) → nat_eq o.name.0 name.0 ≡ false) → GivesTerm scope p t v → GivesTerm scope p t changed
  changed_gives scope p t unused g =
      let w = λ (names : List Sym). scope in
      let there : list_all (meta_fits w v.values) (occurrences_in p) ≡ true = sym (fits-told w v.values p) ∙ g.fit in
      let all : list_all (meta_fits w changed.values) (occurrences_in p) ≡ true =
      each-all (meta_fits w changed.values) (occurrences_in p) (in-each (λ o. meta_fits w changed.values o ≡ true) (occurrences_in p) (λ o i.
      ap (λ x. in_scope_of x (scope + length o.levels)) (meta_other o.name (unused o i)) ∙ all-in (meta_fits w v.values) (occurrences_in p) o there i)) in
      record {
        ambient = g.ambient;
        fit = fits-told w changed.values p ∙ all;
        same = same_inst (ambient_only scope) (ambient_only scope) changed.values v.values p (λ o i. (meta_other o.name (unused o i), refl)) (λ n i. refl) [] scope ∙ g.same;
      }

-- the instance with another list of hypotheses for each context
abbrev with_kept : Instance → List Term → Instance
with_kept v ts = record v { kept = λ n. ts }

kept_gives : (v : Instance) (ts : List Term) (scope : ℕ) (p : Pattern) (t : Term) → GivesTerm scope p t v → GivesTerm scope p t (with_kept v ts)
kept_gives v ts scope p t g = record { ambient = g.ambient; fit = g.fit; same = g.same }

-- ## Tame values

tame_var : IsTameTerm (Var 0)
tame_var = record { few = few-Var 0; shallow = let d = depth-Var 0 in omega (arith, d) }

low_depth : (t : Term) → is_shallow t ≡ true → depth_of t ≤ 200
low_depth t e = grind (arith, nat_tests, e)

longer-differs : (ts : List Term) → Var 0 ∷ ts ≡ ts → ⊥
longer-differs ts e = let k = ap (λ (xs : List Term). length xs) e in absurd (omega (arith, k))

module _ (conds : List Pattern) (redex contractum : Pattern) (whole : rewrite_fault_of conds redex contractum ≡ None) (scope : ℕ) (t : Term) (i : Inst)
    (gives : GivesTerm scope redex t (instance_of i)) (only : (v : Instance) → GivesTerm scope redex t v → Agrees v i) where
  abbrev v : Instance
  v = instance_of i

  no_meta : (name : Sym) → ((o : Occurrence) → In o (occurrences_in redex) → nat_eq o.name.0 name.0 ≡ false) → find_meta i.metas name ≡ None
  no_meta name unused = by (find_meta i.metas name) refl
    where
      by : (o : Option MetaVal) → find_meta i.metas name ≡ o → find_meta i.metas name ≡ None
      by None e = e
      by (Some x) e =
          let a = only (changed v name (larger x.body)) (changed_gives v name (larger x.body) scope redex t unused gives) in
          absurd (larger-differs x.body (sym (meta_here v name (larger x.body)) ∙ a.metas name x e))

  no_context : (name : Sym) → find_ctx i.ctxs name ≡ None
  no_context name = by (find_ctx i.ctxs name) refl
    where
      by : (o : Option CtxVal) → find_ctx i.ctxs name ≡ o → find_ctx i.ctxs name ≡ None
      by None e = e
      by (Some x) e =
          let a = only (with_kept v (Var 0 ∷ x.hyps)) (kept_gives v (Var 0 ∷ x.hyps) scope redex t gives) in
          absurd (longer-differs x.hyps (a.ctxs name x e))

  module _ (few : few_binders_of t ≡ true) (shallow : depth_of t ≤ 200) (narrow : scope ≤ 1800) where
    passes : (test : Term → Bool) → IsInherited test → test t ≡ true → (o : Occurrence) → In o (occurrences_in redex) → test (v.values.meta o.name) ≡ true
    passes test inherited e o j =
        passed test inherited (ambient_only scope) v.values redex (λ x k. all-in (λ (y : Occurrence). are_distinct y.levels) (occurrences_in redex) x (on_variables_from conds redex contractum whole) k)
        [] scope (ap test gives.same ∙ e) o j

    tame_meta : (name : Sym) → IsTameTerm (v.values.meta name)
    tame_meta name = elim (named_or_not (occurrences_in redex) name) [
      | inl k ↦
          let deep : is_shallow t ≡ true = grind (arith, nat_tests, shallow) in
          subst (λ n. IsTameTerm (v.values.meta n)) k.named (record {
            few = passes few_binders_of few_inherited few k.o k.there;
            shallow = low_depth (v.values.meta k.o.name) (passes is_shallow shallow_inherited deep k.o k.there);
          })
      | inr unused ↦ subst IsTameTerm (sym (ap body_or (no_meta name unused))) tame_var
    ]

    kept_none : (name : Sym) → v.kept name ≡ []
    kept_none name = ap kept_or (no_context name)

    pub tame : IsTame v
    tame = record {
      ambient = let e = gives.ambient in omega (arith, e, narrow);
      metas = tame_meta;
      many = λ name. let e = ap (λ (ts : List Term). length ts) (kept_none name) in omega (arith, e);
      kept = λ name. subst (All IsTameTerm) (sym (kept_none name)) (in-all IsTameTerm [] (λ x j. absurd j));
    }

    module _ (p : Pattern) (s : IsSound redex p) (fit : fits (λ names. scope) v.values p ≡ true) where
      fits_wide : fits (wide_of v) v.values p ≡ true
      fits_wide = let e : scope ≡ v.ambient + 0 = let k = gives.ambient in omega (arith, k) in sym (plain_fits (λ names. scope) (wide_of v) v.values p s.plain e) ∙ fit

      pub ready : IsReady v p
      ready = record { closed = s.closed; plain = s.plain; fitting = fits_wide; narrow = pattern_is_narrow v p tame s.few s.shallow }

      -- what is made of the pattern is what is built
      pub built_is : term_of v p ≡ made_by i.ambient v p
      built_is = plain_instance (ground_at v (λ name. 0)) (ambient_only i.ambient) v.values p s.plain (append-nil (upto 0 i.ambient)) [] i.ambient

      pub made_scoped : in_scope_of (made_by scope v p) scope ≡ true
      made_scoped = subst (λ n. in_scope_of (made_by n v p) n ≡ true) gives.ambient (subst (λ x. in_scope_of x i.ambient ≡ true) built_is (term_is_in_scope v p s.closed s.plain fits_wide))

      pub made_few : few_binders_of (made_by scope v p) ≡ true
      made_few =
          let values : HasFewBinders v = record { metas = λ name. (tame_meta name).few; kept = λ name. subst (All (λ x. IsTrue (few_binders_of x))) (sym (kept_none name)) (in-all (λ x. IsTrue (few_binders_of x)) [] (λ x j. absurd j)) } in
          subst (λ n. few_binders_of (made_by n v p) ≡ true) gives.ambient (subst (λ x. few_binders_of x ≡ true) built_is (term_has_few_binders v p values s.few))
