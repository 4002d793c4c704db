-- A rule gives a goal at most one list of subgoals for the same arguments.
use Rattle.std.proofs.Common.{◌≡◌, ◌≤◌, ◌<◌, inl, inr, ℕ, ◌+◌, List, [], ◌∷◌, ◌++◌, map, length, true, nat_eq, Option, Some, refl, sym, ap, ◌∙◌, subst, arith}
use Rattle.std.specs.Prelude.{All, IsTrue, IsSome, Ok, Err, false}
use Rattle.std.specs.List.{IsDistinct, list_all}
use Rattle.std.proofs.lemmas.List.Elements.{All-weaker}
use Rattle.mp_logic.specs.declared.logic.Why.{Why}
use Rattle.mp_logic.specs.declared.logic.Why.TheVariants.{NoMatch, BadArgument, BadAddress, UnderBinder, TooLarge}
use Rattle.mp_logic.specs.Steps.{Outcome}
use Rattle.mp_term.specs.declared.term.Term.{Var}
use Rattle.mp_term.specs.declared.sequent.Sequent.{Sequent}
use Rattle.mp_term.specs.Limits.{within_limits_of}
use Rattle.mp_term.specs.Terms.{in_scope_of}
use Rattle.mp_term.specs.Subst.{sub_of, upto}
use Rattle.mp_schema.specs.declared.schema.Schema.{Schema}
use Rattle.mp_schema.specs.Conditions.{nothing_before, past_all, is_known, has_two_contexts}
use Rattle.mp_schema.specs.Occurrences.{In, occurrences_in_schema, holes_in_schema}
use Rattle.mp_schema.specs.Sequents.{Instance, first_spot, ground_at, wide_of, behind_all, seq}
use Rattle.mp_schema.specs.Solutions.{AgreeOn, GivesGoal}
use Rattle.mp_schema.proofs.Agreeing.{SameAt}
use Rattle.mp_schema.proofs.OneGoal.{one_instance, ground_same, ground_distinct, ground_below}
use Rattle.mp_schema.proofs.OnePattern.{renaming-injective}
use Rattle.mp_match.proofs.GivenLaws.{given-distinct, given-below}
use Rattle.mp_theory.specs.declared.rule.Need.{Need}
use Rattle.mp_theory.specs.declared.rule.Rule.{Rule}
use Rattle.mp_theory.specs.declared.just.Given.{Given}
use Rattle.mp_theory.specs.Needs.{needs_of}
use Rattle.mp_theory.specs.Tables.{IsRule}
use Rattle.mp_refiner.specs.Law.{Misgiven, LargeStep, IsRuleStep}
use Rattle.mp_refiner.specs.RuleStep.{given_variables, Meets, MeetsAll, RuleStep}
use Rattle.mp_theory.proofs.Transfer.{kind_of_need}
use Rattle.mp_theory.proofs.Sound.{IsSound, sound}
use Rattle.mp_theory.proofs.ForNeeds.{need_known}
use Rattle.mp_refiner.proofs.Meeting.{given-width}
use Rattle.mp_theory.proofs.SamePremises.{same_premises}

module _ (rule : Rule) (first : Option ℕ) (given : List Given) (goal : Sequent) (whole : IsRule rule) (many : length goal.hyps ≤ 200) (said : IsTrue (has_two_contexts rule.concl) → IsSome first)
    (v w : Instance) (gives_v : GivesGoal rule.concl first goal v) (gives_w : GivesGoal rule.concl first goal w) where
  is_sound : IsSound rule.premises rule.concl
  is_sound = sound rule whole.faultless

  abbrev needs : List Need
  needs = needs_of rule.premises rule.concl

  alike : AgreeOn v w (occurrences_in_schema rule.concl) (holes_in_schema rule.concl)
  alike = one_instance rule.concl first goal v w is_sound.conclusion said gives_v gives_w

  -- ## Needs

  module _ (n : Need) (j : In n needs) (g : Given) where
    known : is_known (past_all rule.concl.items nothing_before).contexts n.ctxs ≡ true
    known = need_known rule.premises rule.concl is_sound n j

    -- the variables of the need's contexts, and those and its arguments
    abbrev front : List ℕ
    front = ground_at v (behind_all v rule.concl.items first_spot).pos n.ctxs

    abbrev levels : List ℕ
    levels = given_variables v rule.concl n

    front_distinct : IsDistinct nat_eq front
    front_distinct = ground_distinct rule.concl first goal v w is_sound.conclusion said gives_v gives_w n.ctxs known

    front_below : All (λ l. l < 200) front
    front_below =
        All-weaker (λ l. l < length goal.hyps) (λ l. l < 200) (λ l lt. omega arith) front
        (ground_below rule.concl first goal v w is_sound.conclusion said gives_v gives_w n.ctxs known)

    levels_same : given_variables w rule.concl n ≡ levels
    levels_same = ap (λ ls. ls ++ upto 200 n.arity) (sym (ground_same rule.concl first goal v w is_sound.conclusion said gives_v gives_w n.ctxs known))

    need_same : Meets v rule.concl n g → Meets w rule.concl n g → v.values.meta n.name ≡ w.values.meta n.name
    need_same a b =
        let fits_v = subst (λ k. IsTrue (in_scope_of (v.values.meta n.name) k)) (given-width v rule.concl n) a.fits in
        let fits_w = subst (λ k. IsTrue (in_scope_of (w.values.meta n.name) k)) (given-width w rule.concl n ∙ ap (λ (ls : List ℕ). length ls) levels_same) b.fits in
        let gives : sub_of (w.values.meta n.name) (map Var levels) (200 + n.arity) ≡ g.body =
        ap (λ ls. sub_of (w.values.meta n.name) (map Var ls) (200 + n.arity)) (sym levels_same) ∙ b.gives in
        renaming-injective levels (200 + n.arity) (given-distinct front n.arity g.body front_distinct front_below) (given-below front n.arity g.body front_distinct front_below)
        (v.values.meta n.name) (w.values.meta n.name) fits_v fits_w (a.gives ∙ sym gives)

  needs_same : (ns : List Need) (gs : List Given) → ((n : Need) → In n ns → In n needs) → MeetsAll v rule.concl ns gs → MeetsAll w rule.concl ns gs → (n : Need) → In n ns → SameAt v w (kind_of_need n)
  needs_same [] gs k a b n j = absurd j
  needs_same (n ∷ ns) [] k a b m j = absurd a
  needs_same (n ∷ ns) (g ∷ gs) k a b m (inl same) = subst (λ (x : Need). SameAt v w (kind_of_need x)) same (need_same n (k n (inl refl)) g a.0 b.0)
  needs_same (n ∷ ns) (g ∷ gs) k a b m (inr j) = needs_same ns gs (λ x i. k x (inr i)) a.1 b.1 m j

  -- ## Subgoals

  module _ (meets_v : MeetsAll v rule.concl rule.needs given) (meets_w : MeetsAll w rule.concl rule.needs given) where
    needed : (n : Need) → In n needs → SameAt v w (kind_of_need n)
    needed =
        needs_same needs given (λ n j. j) (subst (λ ns. MeetsAll v rule.concl ns given) whole.needs meets_v) (subst (λ ns. MeetsAll w rule.concl ns given) whole.needs meets_w)

    pub same_kids : map (seq v) rule.premises ≡ map (seq w) rule.premises
    same_kids = same_premises rule.premises rule.concl is_sound v w (gives_v.ambient ∙ sym gives_w.ambient) alike.values alike.params needed

module _ (rule : Rule) (first : Option ℕ) (given : List Given) (goal : Sequent) (whole : IsRule rule) (said : IsTrue (has_two_contexts rule.concl) → IsSome first) (many : length goal.hyps ≤ 200) where
  pub one_list : (kids others : List Sequent) → RuleStep rule first given goal kids → RuleStep rule first given goal others → kids ≡ others
  one_list kids others s t = s.kids_are ∙ same_kids rule first given goal whole many said s.instance t.instance s.match t.match s.meets t.meets ∙ sym t.kids_are

  -- ## Outcomes

  abbrev refused : Why → Outcome Sequent
  refused w = Err w

  abbrev Is : Outcome Sequent → Type 0
  Is o = IsRuleStep rule first given goal o

  by_kids : (kids : List Sequent) → RuleStep rule first given goal kids → list_all within_limits_of kids ≡ true → (o : Outcome Sequent) → Is o → Ok kids ≡ o
  by_kids kids s small (Ok others) h = ap (λ ks. Ok ks) (one_list kids others s h.0)
  by_kids kids s small (Err NoMatch) h = absurd (h s.instance s.match)
  by_kids kids s small (Err BadArgument) h = absurd (h.none s.instance s.match s.meets)
  by_kids kids s small (Err BadAddress) h = absurd h
  by_kids kids s small (Err UnderBinder) h = absurd h
  by_kids kids s small (Err TooLarge) h =
      let same = one_list h.kids kids h.step s in
      let large = h.large in
      let f : list_all within_limits_of kids ≡ false = rw same at large in absurd cc

  by_none : ((v : Instance) → GivesGoal rule.concl first goal v → ⊥) → (w : Why) → Is (refused w) → refused NoMatch ≡ refused w
  by_none none NoMatch h = refl
  by_none none BadArgument h = absurd (none h.instance h.match)
  by_none none BadAddress h = absurd h
  by_none none UnderBinder h = absurd h
  by_none none TooLarge h = absurd (none h.step.instance h.step.match)

  by_bad : Misgiven rule first given goal → (w : Why) → Is (refused w) → refused BadArgument ≡ refused w
  by_bad m NoMatch h = absurd (h m.instance m.match)
  by_bad m BadArgument h = refl
  by_bad m BadAddress h = absurd h
  by_bad m UnderBinder h = absurd h
  by_bad m TooLarge h = absurd (m.none h.step.instance h.step.match h.step.meets)

  by_large : LargeStep rule first given goal → (w : Why) → Is (refused w) → refused TooLarge ≡ refused w
  by_large l NoMatch h = absurd (h l.step.instance l.step.match)
  by_large l BadArgument h = absurd (h.none l.step.instance l.step.match l.step.meets)
  by_large l BadAddress h = absurd h
  by_large l UnderBinder h = absurd h
  by_large l TooLarge h = refl

  by_refusal : (w v : Why) → Is (refused w) → Is (refused v) → refused w ≡ refused v
  by_refusal NoMatch v s h = by_none s v h
  by_refusal BadArgument v s h = by_bad s v h
  by_refusal BadAddress v s h = absurd s
  by_refusal UnderBinder v s h = absurd s
  by_refusal TooLarge v s h = by_large s v h

  -- instances say one outcome of a step
  pub one_outcome : (o q : Outcome Sequent) → Is o → Is q → o ≡ q
  one_outcome (Ok kids) q s h = by_kids kids s.0 s.1 q h
  one_outcome (Err w) (Ok kids) s h = sym (by_kids kids h.0 h.1 (refused w) s)
  one_outcome (Err w) (Err v) s h = by_refusal w v s h
