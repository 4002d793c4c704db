-- The instance that a step builds the subgoals of, and those that agree with it.
use Rattle.std.proofs.Common.{◌≡◌, inl, inr, ℕ, ◌+◌, List, [], ◌∷◌, map, length, Bool, true, false, nat_eq, Option, Some, None, if◌then◌else◌, refl, sym, ap, ◌∙◌, subst}
use Rattle.std.specs.Prelude.{unwrap_or, pos}
use Rattle.std.specs.List.{list_all, flat_map}
use Rattle.mp_logic.specs.declared.sym.Sym.{Sym}
use Rattle.mp_term.specs.declared.term.Term.{Term}
use Rattle.mp_term.specs.declared.term.Param.{Param}
use Rattle.mp_term.specs.declared.term.Param.TheVariants.{Num}
use Rattle.mp_term.specs.declared.sequent.Sequent.{Sequent}
use Rattle.mp_term.specs.Terms.{in_scope_of}
use Rattle.mp_term.specs.Limits.{in_scopes_from}
use Rattle.mp_schema.specs.declared.instance.Inst.{Inst}
use Rattle.mp_schema.specs.declared.schema.Schema.{Schema}
use Rattle.mp_schema.specs.Conditions.{has, has_all, context_names}
use Rattle.mp_schema.specs.Faultless.{occurrence_fits}
use Rattle.mp_schema.specs.Occurrences.{Occurrence, occurrences_in, occurrences_in_item, occurrences_in_schema, holes_in_schema}
use Rattle.mp_schema.specs.Sequents.{Instance, wide_of, schema_fits}
use Rattle.mp_schema.specs.Values.{find_meta, find_param, find_ctx, body_or, kept_or, kept_of, instance_of}
use Rattle.mp_schema.proofs.Fitting.{schema_fits-told}
use Rattle.mp_match.specs.Covering.{is_there}
use Rattle.mp_schema.specs.Solutions.{Agrees, GivesGoal, HasFirst, FirstHas}
use Rattle.mp_match.specs.Walks.{match_of}
use Rattle.mp_theory.specs.declared.rule.Need.{Need}
use Rattle.mp_theory.specs.declared.just.Given.{Given}
use Rattle.mp_theory.specs.Needs.{needs_of}
use Rattle.mp_refiner.specs.RuleStep.{MeetsAll}
use Rattle.mp_refiner.specs.Steps.{given_all}
use Rattle.mp_schema.specs.Occurrences.{In}
use Rattle.mp_schema.proofs.Lists.{in-left, all-in, each-all, in-each}
use Rattle.mp_schema.proofs.UseKinds.{Kind, kind_of, context_occurs}
use Rattle.mp_theory.proofs.Transfer.{kind_of_need, transfer}
use Rattle.mp_schema.proofs.Agreeing.{and_both, SameAt, SameHole, same_seq, same_place}
use Rattle.mp_schema.specs.Solutions.{SameValue}
use Rattle.mp_match.proofs.Agreement.{agree_hole, agree_at, agree_ambient}
use Rattle.mp_match.proofs.Covered.{HasAll, HasValue, all_schema}
use Rattle.mp_refiner.proofs.Matched.{IsMatch}
use Rattle.mp_refiner.proofs.GivenValues.{IsFilled, AllMeetBy, agrees-before, filled, completed}
use Rattle.mp_refiner.proofs.Meeting.{IsLaidAs, meets_by, by_meets}
use Rattle.mp_theory.proofs.ForNeeds.{as_many, need_listed}
use Rattle.mp_refiner.proofs.Asked.{IsAsked, needs_usable, needs_new}

-- an instance agrees with the values that it stands for
pub agrees_itself : (i : Inst) → Agrees (instance_of i) i
agrees_itself i = record {
  ambient = refl;
  ctxs = λ name x e. ap kept_or e;
  metas = λ name x e. ap body_or e;
  params = λ name p e. ap (λ (o : Option Param). unwrap_or o (Num (pos 0))) e;
}

-- ## Values that are the same fit the same

module _ (u w : Instance) (ambient : u.ambient ≡ w.ambient) (kept : (name : Sym) → u.kept name ≡ w.kept name) where
  same_wide : (cs : List Sym) → wide_of u cs ≡ wide_of w cs
  same_wide cs = rw (ambient, same_lengths cs) refl
    where
      same_lengths : (cs : List Sym) → map (λ n. length (u.kept n)) cs ≡ map (λ n. length (w.kept n)) cs
      same_lengths [] = refl
      same_lengths (c ∷ cs) = let k = kept c in let rest = same_lengths cs in rw (k, rest) refl

  same_fit : (c : Bool) (name : Sym) (cs : List Sym) (n : ℕ) → SameValue u w c name →
      (if c then in_scopes_from (wide_of u cs + n) (u.kept name) else in_scope_of (u.values.meta name) (wide_of u cs + n))
      ≡ (if c then in_scopes_from (wide_of w cs + n) (w.kept name) else in_scope_of (w.values.meta name) (wide_of w cs + n))
  same_fit true name cs n e = let k = same_wide cs in rw (k, e) refl
  same_fit false name cs n e = let k = same_wide cs in rw (k, e) refl

  same_fits : (s : Schema) → ((o : Occurrence) → In o (occurrences_in_schema s) → SameAt u w (kind_of o)) → schema_fits w s ≡ true → schema_fits u s ≡ true
  same_fits s all e =
      let there : list_all (occurrence_fits w) (occurrences_in_schema s) ≡ true = sym (schema_fits-told w s) ∙ e in
      schema_fits-told u s ∙ each-all (occurrence_fits u) (occurrences_in_schema s) (in-each (λ o. occurrence_fits u o ≡ true) (occurrences_in_schema s) (λ o i.
      same_fit o.is_context o.name o.ctxs (length o.levels) (all o i) ∙ all-in (occurrence_fits w) (occurrences_in_schema s) o there i))

  same_first : (s : Schema) (first : Option ℕ) → HasFirst w s first → HasFirst u s first
  same_first s None h = h
  same_first s (Some n) h = at (context_names s) h
    where
      at : (names : List Sym) → FirstHas w names n → FirstHas u names n
      at [] k = k
      at (c ∷ names) k = ap (λ (ts : List Term). length ts) (kept c) ∙ k

-- ## What is found

module _ (ps : List Schema) (c : Schema) (first : Option ℕ) (given : List Given) (goal : Sequent) (a : IsAsked ps c first given goal) (i : Inst) (is : IsMatch c first goal i) where
  abbrev needs : List Need
  needs = needs_of ps c

  pub gives_first : GivesGoal c first goal (instance_of i)
  gives_first = is.whole.0

  pub agrees_first : (v : Instance) → GivesGoal c first goal v → Agrees v i
  agrees_first = is.whole.2

  there : HasAll i (occurrences_in_schema c) (holes_in_schema c)
  there = all_schema i c (is.covers)

  -- two instances that agree with the match have the same values where the conclusion has names
  agree_known : (u w : Instance) → Agrees u i → Agrees w i → (o : Occurrence) → In o (occurrences_in_schema c) → SameAt u w (kind_of o)
  agree_known u w x y o j = agree_at i u w x y o (there.values o j)

  agree_holes : (u w : Instance) → Agrees u i → Agrees w i → (name : Sym) → In name (holes_in_schema c) → SameHole u w name
  agree_holes u w x y name j = agree_hole i u w x y name (there.holes name j)

  same_kept : (v : Instance) → Agrees v i → (name : Sym) → has (context_names c) name ≡ true → v.kept name ≡ kept_of i.ctxs name
  same_kept v x name e =
      let o = context_occurs c.items name e in
      let k = agree_known v (instance_of i) x (agrees_itself i) o.at (in-left o.at (flat_map occurrences_in_item c.items) (occurrences_in c.concl) o.there) in
      subst (λ n. v.kept n ≡ kept_of i.ctxs n) o.named (subst (λ b. SameValue v (instance_of i) b o.at.name) o.context k)

  laid_as : (v : Instance) → GivesGoal c first goal v → IsLaidAs v c i
  laid_as v g =
      let x = agrees_first v g in
      let place = same_place v (instance_of i) (agree_ambient i v (instance_of i) x (agrees_itself i)) c a.rule.placed_end (agree_known v (instance_of i) x (agrees_itself i))
      (agree_holes v (instance_of i) x (agrees_itself i)) in
      record {
        ambient = g.ambient;
        pos = λ name e. ap (λ s. s.pos name) place ∙ sym (is.whole.1 name e);
        kept = same_kept v x;
      }

  meets_found : (v : Instance) → GivesGoal c first goal v → MeetsAll v c needs given → AllMeetBy i.ctxs v needs given
  meets_found v g m = meets_by v c i (laid_as v g) needs given (need_listed ps c a.rule) m

  -- an instance that gives the goal and meets the needs agrees with what is given
  pub agrees_given : (v : Instance) → GivesGoal c first goal v → MeetsAll v c needs given → (new : Inst) × ((given_all needs given i ≡ Some new) × Agrees v new)
  agrees_given v g m =
      completed needs given i v (needs_usable ps c first given goal a i is) (needs_new ps c first given goal a i is) (agrees_first v g) (meets_found v g m)

  module _ (new : Inst) (all : given_all needs given i ≡ Some new) where
    pub fill : IsFilled i new needs given
    fill = filled needs given i new (as_many needs given a.terms) (needs_usable ps c first given goal a i is) (needs_new ps c first given goal a i is) all

    abbrev made : Instance
    made = instance_of new

    agrees_made : Agrees made i
    agrees_made = agrees-before made i new fill.grown (agrees_itself new)

    pub gives_made : GivesGoal c first goal made
    gives_made =
        let x = agrees_made in
        let y = agrees_itself i in
        let first_made = agree_known made (instance_of i) x y in
        let kept = λ (name : Sym). ap (λ cs. kept_of cs name) fill.grown.ctxs in
        let ambient = agree_ambient i made (instance_of i) x y in
        record {
          ambient = ambient ∙ gives_first.ambient;
          fit = same_fits made (instance_of i) ambient kept c first_made gives_first.fit;
          sized = same_first made (instance_of i) ambient kept c first gives_first.sized;
          same = same_seq made (instance_of i) ambient c a.rule.placed_end first_made (agree_holes made (instance_of i) x y) ∙ gives_first.same;
        }

    pub meets_made : MeetsAll made c needs given
    meets_made = by_meets made c i (laid_as made gives_made) needs given (need_listed ps c a.rule) (fill.meets made (agrees_itself new))

-- ## The values of premises fit

module _ (v : Instance) where
  abbrev fit_of : Kind → Bool
  fit_of k = if k.is_context then in_scopes_from (wide_of v k.ctxs + k.count) (v.kept k.name) else in_scope_of (v.values.meta k.name) (wide_of v k.ctxs + k.count)

  met_fits : (c : Schema) (ns : List Need) (gs : List Given) → MeetsAll v c ns gs → (n : Need) → In n ns → fit_of (kind_of_need n) ≡ true
  met_fits c [] gs m n j = absurd j
  met_fits c (k ∷ ns) [] m n j = absurd m
  met_fits c (k ∷ ns) (g ∷ gs) m n (inl same) = subst (λ (x : Need). fit_of (kind_of_need x) ≡ true) same m.0.fits
  met_fits c (k ∷ ns) (g ∷ gs) m n (inr j) = met_fits c ns gs m.1 n j

  pub premise_fits : (ps : List Schema) (c : Schema) (first : Option ℕ) (given : List Given) (goal : Sequent) → IsAsked ps c first given goal → schema_fits v c ≡ true →
      MeetsAll v c (needs_of ps c) given → (p : Schema) → In p ps → schema_fits v p ≡ true
  premise_fits ps c first given goal a e m p j =
      let there : list_all (occurrence_fits v) (occurrences_in_schema c) ≡ true = sym (schema_fits-told v c) ∙ e in
      let each = transfer ps c a.rule.even (λ k. fit_of k ≡ true) (λ o i. all-in (occurrence_fits v) (occurrences_in_schema c) o there i) (met_fits c (needs_of ps c) given m) p in
      schema_fits-told v p ∙ each-all (occurrence_fits v) (occurrences_in_schema p) (in-each (λ o. occurrence_fits v o ≡ true) (occurrences_in_schema p) (λ o i. each o j i))
