-- The values of a step are no deeper than a goal may be, and have as few binders.
use Rattle.std.proofs.Common.{◌≡◌, ◌≤◌, ◌⊎◌, inl, inr, ℕ, List, [], ◌∷◌, length, Bool, true, false, nat_eq, Option, Some, refl, sym, ap, ◌∙◌, subst, arith}
use Rattle.std.specs.Prelude.{All}
use Rattle.std.specs.List.{list_all, flat_map}
use Rattle.std.proofs.lemmas.Bool.Decides.{nat_tests}
use Rattle.mp_logic.specs.declared.sym.Sym.{Sym}
use Rattle.mp_term.specs.declared.term.Term.{Term, Var}
use Rattle.mp_term.specs.declared.sequent.Sequent.{Sequent}
use Rattle.mp_term.specs.Terms.{depth_of}
use Rattle.mp_term.specs.Limits.{is_shallow, few_binders_of}
use Rattle.mp_term.proofs.Layers.{few-Var, depth-Var}
use Rattle.mp_schema.specs.declared.instance.Inst.{Inst}
use Rattle.mp_schema.specs.declared.schema.Schema.{Schema}
use Rattle.mp_schema.specs.Conditions.{nothing_before, has, context_names}
use Rattle.mp_schema.specs.Occurrences.{Occurrence, occurrences_in, occurrences_in_item, occurrences_in_schema}
use Rattle.mp_schema.specs.Sequents.{Instance}
use Rattle.mp_schema.specs.Values.{body_or, kept_or, kept_of, instance_of}
use Rattle.mp_schema.specs.Solutions.{GivesGoal}
use Rattle.mp_match.specs.Walks.{match_of}
use Rattle.mp_build.specs.Laws.{IsTameTerm, IsTame}
use Rattle.mp_theory.specs.declared.rule.Need.{Need}
use Rattle.mp_theory.specs.declared.just.Given.{Given}
use Rattle.mp_theory.specs.Needs.{needs_of, is_needed}
use Rattle.mp_refiner.specs.RuleStep.{MeetsAll}
use Rattle.mp_refiner.specs.Steps.{given_all}
use Rattle.mp_schema.specs.Occurrences.{In}
use Rattle.mp_term.proofs.EqualTerms.{decided}
use Rattle.mp_schema.proofs.Lists.{in-left, in-all, all-in}
use Rattle.mp_schema.proofs.UseKinds.{same_name, context_occurs}
use Rattle.mp_theory.proofs.Uses.{UsedIn, needed-in}
use Rattle.mp_schema.proofs.Before.{IsInherited, few_inherited, shallow_inherited}
use Rattle.mp_schema.proofs.Passing.{PassValue, schema_pass}
use Rattle.mp_schema.proofs.Placed.{past_within}
use Rattle.mp_refiner.proofs.Unused.{unused_meta}
use Rattle.mp_theory.proofs.ForNeeds.{AreForNeeds}
use Rattle.mp_refiner.proofs.Asked.{IsAsked}
use Rattle.mp_refiner.proofs.Filled.{gives_first, agrees_first, fill, gives_made, meets_made}
use Rattle.mp_refiner.proofs.Matched.{IsMatch}

-- a name is used or not
used_or_not : (os : List Occurrence) (name : Sym) → UsedIn os name ⊎ (UsedIn os name → ⊥)
used_or_not [] name = inr (λ u. absurd u.there)
used_or_not (o ∷ os) name = by o.is_context refl (nat_eq o.name.0 name.0) refl (used_or_not os name)
  where
    more : UsedIn os name → UsedIn (o ∷ os) name
    more u = record { at = u.at; there = inr u.there; plain = u.plain; named = u.named }

    not_here : (o.is_context ≡ true) ⊎ (nat_eq o.name.0 name.0 ≡ false) → (UsedIn os name → ⊥) → UsedIn (o ∷ os) name → ⊥
    not_here h none u = at u.at u.there u.plain u.named
      where
        at : (x : Occurrence) → In x (o ∷ os) → x.is_context ≡ false → x.name ≡ name → ⊥
        at x (inr i) plain named = none (record { at = x; there = i; plain = plain; named = named })
        at x (inl same) plain named = elim h [
          | inl k ↦ let e : o.is_context ≡ x.is_context = ap (λ (y : Occurrence). y.is_context) same in absurd cc
          | inr k ↦
              let e : o.name ≡ name = ap (λ (y : Occurrence). y.name) same ∙ named in
              let f : o.name.0 ≡ name.0 = ap (λ (y : Sym). y.0) e in
              absurd (grind (arith, nat_tests, k, f))
        ]

    by : (b : Bool) → o.is_context ≡ b → (t : Bool) → nat_eq o.name.0 name.0 ≡ t → UsedIn os name ⊎ (UsedIn os name → ⊥) → UsedIn (o ∷ os) name ⊎ (UsedIn (o ∷ os) name → ⊥)
    by b e t k (inl u) = inl (more u)
    by true e t k (inr none) = inr (not_here (inl e) none)
    by false e true k (inr none) = inl (record { at = o; there = inl refl; plain = e; named = same_name o.name name k })
    by false e false k (inr none) = inr (not_here (inr k) none)

low : (t : Term) → is_shallow t ≡ true → depth_of t ≤ 200
low t e = grind (arith, nat_tests, e)

tame_var : IsTameTerm (Var 0)
tame_var = record { few = few-Var 0; shallow = let d = depth-Var 0 in omega arith }

met_tame : (v : Instance) (c : Schema) (ns : List Need) (gs : List Given) → AreForNeeds ns gs → MeetsAll v c ns gs → (n : Need) → In n ns → IsTameTerm (v.values.meta n.name)
met_tame v c [] gs h m n i = absurd i
met_tame v c (k ∷ ns) [] h m n i = absurd h
met_tame v c (k ∷ ns) (g ∷ gs) h m n (inr i) = met_tame v c ns gs h.1 m.1 n i
met_tame v c (k ∷ ns) (g ∷ gs) h m n (inl same) = subst (λ (x : Need). IsTameTerm (v.values.meta x.name)) same (here (v.values.meta k.name))
  where
    here : (t : Term) → IsTameTerm (v.values.meta k.name)
    here t =
        let s = h.0.shallow in
        let deep : is_shallow g.body ≡ true = grind (arith, nat_tests, s) in
        record {
          few = few_inherited.before (v.values.meta k.name) _ _ (ap few_binders_of m.0.gives ∙ h.0.few);
          shallow = low (v.values.meta k.name) (shallow_inherited.before (v.values.meta k.name) _ _ (ap is_shallow m.0.gives ∙ deep));
        }

module _ (ps : List Schema) (c : Schema) (first : Option ℕ) (given : List Given) (goal : Sequent) (a : IsAsked ps c first given goal) (i : Inst) (is : IsMatch c first goal i) (new : Inst)
    (all : given_all (needs_of ps c) given i ≡ Some new) where
  abbrev made : Instance
  made = instance_of new

  gives : GivesGoal c first goal made
  gives = gives_made ps c first given goal a i is new all

  module _ (test : Term → Bool) (inherited : IsInherited test) (hyps : list_all test goal.hyps ≡ true) (concl : test goal.concl ≡ true) where
    passes : (o : Occurrence) → In o (occurrences_in_schema c) → PassValue test inherited made o.is_context o.name
    passes =
        schema_pass test inherited made c a.rule.distinct (ap (λ (s : Sequent). list_all test s.hyps) gives.same ∙ hyps) (ap (λ (s : Sequent). test s.concl) gives.same ∙ concl)

    passes_meta : (name : Sym) → UsedIn (occurrences_in_schema c) name → test (made.values.meta name) ≡ true
    passes_meta name u =
        subst (λ n. test (made.values.meta n) ≡ true) u.named (subst (λ b. PassValue test inherited made b u.at.name) u.plain (passes u.at u.there))

    passes_kept : (name : Sym) → has (context_names c) name ≡ true → list_all test (made.kept name) ≡ true
    passes_kept name e =
        let o = context_occurs c.items name e in
        subst (λ n. list_all test (made.kept n) ≡ true) o.named
        (subst (λ b. PassValue test inherited made b o.at.name) o.context (passes o.at (in-left o.at (flat_map occurrences_in_item c.items) (occurrences_in c.concl) o.there)))

  tame_used : (name : Sym) → UsedIn (occurrences_in_schema c) name → IsTameTerm (made.values.meta name)
  tame_used name u = record {
    few = passes_meta few_binders_of few_inherited a.few a.few_end name u;
    shallow = low (made.values.meta name) (passes_meta is_shallow shallow_inherited a.shallow a.shallow_end name u);
  }

  tame_needed : (name : Sym) → is_needed (needs_of ps c) name ≡ true → IsTameTerm (made.values.meta name)
  tame_needed name e =
      let n = needed-in (needs_of ps c) name e in
      subst (λ k. IsTameTerm (made.values.meta k)) n.named
      (met_tame made c (needs_of ps c) given a.terms (meets_made ps c first given goal a i is new all) n.need n.there)

  tame_other : (name : Sym) → (UsedIn (occurrences_in_schema c) name → ⊥) → is_needed (needs_of ps c) name ≡ false → IsTameTerm (made.values.meta name)
  tame_other name unused e =
      let none = unused_meta c first goal i a.rule.placed_end (gives_first ps c first given goal a i is) (agrees_first ps c first given goal a i is) name unused in
      let k = (fill ps c first given goal a i is new all).others name none e in
      subst IsTameTerm (sym (ap body_or k)) tame_var

  tame_meta : (name : Sym) → IsTameTerm (made.values.meta name)
  tame_meta name = elim (used_or_not (occurrences_in_schema c) name) [
    | inl u ↦ tame_used name u
    | inr unused ↦ elim (decided (is_needed (needs_of ps c) name)) [ inl e ↦ tame_needed name e | inr e ↦ tame_other name unused e ]
  ]

  same_kept : (name : Sym) → made.kept name ≡ kept_of i.ctxs name
  same_kept name = ap (λ cs. kept_of cs name) (fill ps c first given goal a i is new all).grown.ctxs

  tame_kept : (name : Sym) → All IsTameTerm (made.kept name)
  tame_kept name = elim (decided (has (context_names c) name)) [
    | inl e ↦
        let few = passes_kept few_binders_of few_inherited a.few a.few_end name e in
        let shallow = passes_kept is_shallow shallow_inherited a.shallow a.shallow_end name e in
        in-all IsTameTerm (made.kept name) (λ t j. record { few = all-in few_binders_of (made.kept name) t few j; shallow = low t (all-in is_shallow (made.kept name) t shallow j) })
    | inr e ↦
        let h = past_within c.items nothing_before name in
        let spread = is.spread in
        let none = spread.others name (h ∙ e) in
        subst (All IsTameTerm) (sym (same_kept name ∙ ap kept_or none)) (in-all IsTameTerm [] (λ t j. absurd j))
  ]

  pub tame : IsTame made
  tame = record {
    ambient = let e = gives.ambient in omega arith;
    metas = tame_meta;
    many = λ name.
        let spread = is.spread in
        let k = spread.few name in
        let m = a.many in
        let e = ap (λ (ts : List Term). length ts) (same_kept name) in
        omega arith;
    kept = tame_kept;
  }
