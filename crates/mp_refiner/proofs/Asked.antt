-- What a step may ask, and what it finds before it builds the subgoals.
use Rattle.std.proofs.Common.{◌≡◌, ◌≤◌, ◌<◌, ◌^◌, ◌+◌, inl, inr, ℕ, List, [], ◌∷◌, length, min, true, Option, Some, None, refl, sym, ap, ◌∙◌, arith}
use Rattle.std.specs.Prelude.{◌&&◌, ◌↔◌, IsTrue, IsSome, is_some, nat_le}
use Rattle.std.specs.List.{list_all}
use Rattle.std.proofs.lemmas.Bool.Decides.{nat_tests}
use Rattle.std.proofs.lemmas.Grind.{common_steps}
use Rattle.std.proofs.lemmas.List.Elements.{All-weaker}
use Rattle.mp_term.specs.declared.sequent.Sequent.{Sequent}
use Rattle.mp_term.specs.Terms.{in_scope_of, depth_of}
use Rattle.mp_term.specs.Limits.{is_shallow, few_binders_of, within_limits_of, sequent_in_scope_of, sequent_few_binders_of}
use Rattle.mp_schema.specs.declared.instance.CtxVal.{CtxVal}
use Rattle.mp_schema.specs.declared.instance.MetaVal.{MetaVal}
use Rattle.mp_schema.specs.declared.instance.Inst.{Inst}
use Rattle.mp_schema.specs.declared.schema.Schema.{Schema}
use Rattle.mp_schema.specs.Conditions.{nothing_before, past_all, has_all, is_apart, is_known, context_names, has_two_contexts}
use Rattle.mp_logic.specs.Lists.{same_bool}
use Rattle.mp_schema.specs.Values.{find_meta}
use Rattle.mp_match.specs.Walks.{match_of}
use Rattle.mp_term.specs.Subst.{widest_in_sequent}
use Rattle.mp_term.proofs.Laws.{goals_are_narrow}
use Rattle.mp_match.specs.Spread.{IsSpread}
use Rattle.mp_theory.specs.declared.rule.Need.{Need}
use Rattle.mp_theory.specs.declared.rule.Rule.{Rule}
use Rattle.mp_theory.specs.declared.just.Given.{Given}
use Rattle.mp_theory.specs.Needs.{needs_of}
use Rattle.mp_theory.specs.Tables.{is_faultless}
use Rattle.mp_refiner.specs.Ready.{IsUsable, AreNew}
use Rattle.mp_theory.specs.Allowed.{is_good, is_for, are_for, is_allowed_at}
use Rattle.mp_schema.specs.Occurrences.{In}
use Rattle.mp_schema.proofs.UseKinds.{has_all-has}
use Rattle.mp_theory.proofs.ForNeeds.{IsForNeed, AreForNeeds, for_needs, as_many, need_known, need_few}
use Rattle.mp_theory.proofs.Uses.{HaveApartNames, need-from, needs_apart}
use Rattle.mp_schema.proofs.Agreeing.{and_both}
use Rattle.mp_schema.proofs.Placed.{IsWithin, is_known_more, placed_known, past_within}
use Rattle.mp_theory.proofs.Sound.{IsSound, sound}
use Rattle.mp_refiner.proofs.Matched.{IsMatch, sized_where_two}
use Rattle.mp_refiner.proofs.Unused.{unused_meta}
use Rattle.mp_refiner.proofs.GivenValues.{AreUsable}

-- ## What is asked

-- a step by a rule without a fault, on a good goal, as its justification may ask it
pub record IsAsked (ps : List Schema) (c : Schema) (first : Option ℕ) (given : List Given) (goal : Sequent) : Type 0 where
  pub rule : IsSound ps c
  pub two : IsSome first ↔ IsTrue (has_two_contexts c)
  pub terms : AreForNeeds (needs_of ps c) given
  pub scoped : IsTrue (sequent_in_scope_of goal)
  pub narrow : widest_in_sequent goal < 2 ^ 31
  pub many : length goal.hyps ≤ 200
  pub few : list_all few_binders_of goal.hyps ≡ true
  pub few_end : few_binders_of goal.concl ≡ true
  pub shallow : list_all is_shallow goal.hyps ≡ true
  pub shallow_end : is_shallow goal.concl ≡ true

pub asked : (rule : Rule) (first : Option ℕ) (given : List Given) (goal : Sequent) → IsTrue (is_allowed_at (Some rule) first given) → IsTrue (is_good goal) →
    IsAsked rule.premises rule.concl first given goal
asked rule first given goal allowed good =
    let a = and_both (is_faultless rule && same_bool (is_some first) (has_two_contexts rule.concl)) (are_for (needs_of rule.premises rule.concl) given) allowed in
    let b = and_both (is_faultless rule) (same_bool (is_some first) (has_two_contexts rule.concl)) a.0 in
    let g = and_both (sequent_in_scope_of goal && sequent_few_binders_of goal) (within_limits_of goal) good in
    let h = and_both (sequent_in_scope_of goal) (sequent_few_binders_of goal) g.0 in
    let few = and_both (list_all few_binders_of goal.hyps) (few_binders_of goal.concl) h.1 in
    let limits = and_both _ (nat_le _ 20000) g.1 in
    let ends = and_both _ (is_shallow goal.concl) limits.0 in
    let hyps = and_both (nat_le (length goal.hyps) 200) (list_all is_shallow goal.hyps) ends.0 in
    let narrow = goals_are_narrow goal g.1 h.1 in
    record {
      rule = sound rule b.0;
      two = sized_where_two first (has_two_contexts rule.concl) b.1;
      terms = for_needs (needs_of rule.premises rule.concl) given a.1;
      scoped = h.0;
      narrow = omega arith;
      many = let k = hyps.0 in grind (arith, nat_tests, k);
      few = few.0;
      few_end = few.1;
      shallow = hyps.1;
      shallow_end = ends.1;
    }

-- ## What needs may use

usable_given : (ctxs : List CtxVal) (ns : List Need) (gs : List Given) → AreForNeeds ns gs → ((n : Need) → In n ns → IsUsable ctxs n) → AreUsable ctxs ns gs
usable_given ctxs [] gs h k = tt
usable_given ctxs (n ∷ ns) [] h k = absurd h
usable_given ctxs (n ∷ ns) (g ∷ gs) h k = (k n (inl refl), h.0.scoped, usable_given ctxs ns gs h.1 (λ m i. k m (inr i)))

new_given : (metas : List MetaVal) (ns : List Need) → HaveApartNames ns → ((n : Need) → In n ns → find_meta metas n.name ≡ None) → AreNew metas ns
new_given metas [] h k = tt
new_given metas (n ∷ ns) h k = (k n (inl refl), h.0, new_given metas ns h.1 (λ m i. k m (inr i)))

module _ (ps : List Schema) (c : Schema) (first : Option ℕ) (given : List Given) (goal : Sequent) (a : IsAsked ps c first given goal) where
  module _ (i : Inst) (is : IsMatch c first goal i) where
    spread : IsSpread i c goal
    spread = is.spread

    pub need_usable : (n : Need) → In n (needs_of ps c) → IsUsable i.ctxs n
    need_usable n j = record {
      few = need_few ps c a.rule n j;
      distinct = spread.distinct n.ctxs (need_known ps c a.rule n j);
      below =
          let many = a.many in
          All-weaker (λ l. l < length goal.hyps) (λ l. l < 200) (λ l lt. omega arith) _ (spread.below n.ctxs);
    }

    pub needs_usable : AreUsable i.ctxs (needs_of ps c) given
    needs_usable = usable_given i.ctxs (needs_of ps c) given a.terms need_usable

    pub needs_new : AreNew i.metas (needs_of ps c)
    needs_new =
        new_given i.metas (needs_of ps c) (needs_apart ps c) (λ n j.
        unused_meta c first goal i a.rule.placed_end (is.whole.0) (is.whole.2)
        n.name (need-from ps c n j).new)
