-- The outcome of a step by a rewrite is what instances say.
use Rattle.std.proofs.Common.{◌≡◌, ◌<◌, ◌↔◌, inl, inr, ℕ, ◌+◌, List, [], ◌∷◌, map, length, Bool, true, false, nat_lt, Option, Some, None, if◌then◌else◌, refl, sym, ap, ◌∙◌, subst, arith}
use Rattle.std.specs.Prelude.{Ok, Err, ◌&&◌}
use Rattle.std.specs.List.{list_all}
use Rattle.std.proofs.lemmas.Bool.Decides.{nat_tests}
use Rattle.std.proofs.lemmas.List.{length-map}
use Rattle.mp_logic.specs.declared.logic.Why.TheVariants.{NoMatch, BadArgument, BadAddress, UnderBinder, TooLarge}
use Rattle.mp_logic.specs.Steps.{Outcome}
use Rattle.mp_term.specs.declared.term.Term.{Term}
use Rattle.mp_term.specs.declared.sequent.Sequent.{Sequent}
use Rattle.mp_term.specs.Terms.{in_scope_of}
use Rattle.mp_term.specs.Limits.{within_limits_of, in_scopes_from, sequent_in_scope_of, few_binders_of, sequent_few_binders_of}
use Rattle.mp_term.proofs.EqualTerms.{both_true, and_true}
use Rattle.mp_schema.specs.declared.instance.Inst.{Inst}
use Rattle.mp_schema.specs.declared.pattern.Pattern.{Pattern}
use Rattle.mp_schema.specs.Instances.{fits}
use Rattle.mp_schema.specs.Occurrences.{In}
use Rattle.mp_schema.specs.Sequents.{Instance}
use Rattle.mp_schema.specs.Solutions.{GivesTerm, IsTermInstance, Agrees}
use Rattle.mp_schema.specs.Values.{instance_of}
use Rattle.mp_schema.proofs.Lists.{value_or, in-each, each-all}
use Rattle.mp_match.specs.Matches.{term_match}
use Rattle.mp_match.proofs.Laws.{term_matches_are_instances}
use Rattle.mp_theory.specs.Allowed.{is_good}
use Rattle.mp_theory.specs.Tables.{IsRewrite}
use Rattle.mp_theory.specs.declared.place.Place.{Place}
use Rattle.mp_theory.specs.declared.rewrite.Rewrite.{Rewrite}
use Rattle.mp_rewrite.specs.Addresses.{Subterm, hyps_before, subterm_of, put_in}
use Rattle.mp_rewrite.specs.Laws.{IsRewriteStep}
use Rattle.mp_rewrite.specs.RewriteStep.{made_by, condition_by, kids_by, is_barred, RewriteStep}
use Rattle.mp_rewrite.specs.Steps.{outcome_by_match, outcome_at_subterm, rewrite_outcome}
use Rattle.mp_rewrite.proofs.Instances.{sound_contractum, sound_condition, fine, redex_plain, same_term, contractum_fits, condition_fits, made_scoped, made_few}
use Rattle.mp_rewrite.proofs.Places.{IsGoodGoal, good_goal, IsGoodSubterm, subterm_good, AreGoodBefore, before_good, changed_is}

-- ## Lists of subgoals

map-same : (f g : Pattern → Sequent) (ps : List Pattern) → ((p : Pattern) → In p ps → f p ≡ g p) → map f ps ≡ map g ps
map-same f g [] h = refl
map-same f g (p ∷ ps) h = ap (λ s. s ∷ map f ps) (h p (inl refl)) ∙ ap (λ ss. g p ∷ ss) (map-same f g ps (λ q i. h q (inr i)))

good_where : (s : Sequent) → sequent_in_scope_of s ≡ true → sequent_few_binders_of s ≡ true → within_limits_of s ≡ true → is_good s ≡ true
good_where s scoped few within = and_true (sequent_in_scope_of s && sequent_few_binders_of s) (within_limits_of s) (and_true (sequent_in_scope_of s) (sequent_few_binders_of s) scoped few) within

limits_of_good : (kids : List Sequent) → list_all is_good kids ≡ true → list_all within_limits_of kids ≡ true
limits_of_good [] e = refl
limits_of_good (s ∷ ss) e =
    let both = both_true (is_good s) (list_all is_good ss) e in
    and_true (within_limits_of s) (list_all within_limits_of ss) (both_true (sequent_in_scope_of s && sequent_few_binders_of s) (within_limits_of s) both.0).1 (limits_of_good ss both.1)

good_each : (kids : List Sequent) → ((s : Sequent) → In s kids → within_limits_of s ≡ true → is_good s ≡ true) → list_all within_limits_of kids ≡ true → list_all is_good kids ≡ true
good_each [] h e = refl
good_each (s ∷ ss) h e =
    let both = both_true (within_limits_of s) (list_all within_limits_of ss) e in
    and_true (is_good s) (list_all is_good ss) (h s (inl refl) both.0) (good_each ss (λ x i. h x (inr i)) both.1)

in-map : (f : Pattern → Sequent) (P : Sequent → Type 0) (ps : List Pattern) → ((p : Pattern) → In p ps → P (f p)) → (s : Sequent) → In s (map f ps) → P s
in-map f P [] h s i = absurd i
in-map f P (p ∷ ps) h s (inl same) = subst P same (h p (inl refl))
in-map f P (p ∷ ps) h s (inr i) = in-map f P ps (λ q j. h q (inr j)) s i

abbrev kids_or : List Sequent → Outcome Sequent → List Sequent
kids_or d (Ok kids) = kids
kids_or d (Err e) = d

-- the number of subgoals by an instance
pub count_kids : (rewrite : Rewrite) (place : Place) (address : List ℕ) (goal : Sequent) (scope : ℕ) (v : Instance) → length (kids_by rewrite place address goal scope v) ≡ length rewrite.conds + 1
count_kids rewrite place address goal scope v = let k = length-map rewrite.conds (condition_by place goal scope v) in omega (arith, k)

-- ## One list of subgoals

module _ (rewrite : Rewrite) (place : Place) (address : List ℕ) (goal : Sequent) (whole : IsRewrite rewrite) where
  -- instances that give one term give the same subgoals
  pub same_kids : (scope : ℕ) (t : Term) (v w : Instance) → GivesTerm scope rewrite.redex t v → GivesTerm scope rewrite.redex t w →
      kids_by rewrite place address goal scope v ≡ kids_by rewrite place address goal scope w
  same_kids scope t v w gv gw =
      let same = same_term rewrite.conds rewrite.redex rewrite.contractum whole scope t v w gv gw in
      ap (λ x. put_in place address x goal ∷ map (condition_by place goal scope v) rewrite.conds) (same rewrite.contractum (sound_contractum rewrite.conds rewrite.redex rewrite.contractum whole))
      ∙ ap (λ ss. put_in place address (made_by scope w rewrite.contractum) goal ∷ ss)
      (map-same (condition_by place goal scope v) (condition_by place goal scope w) rewrite.conds (λ p i.
      ap (λ x. let s : Sequent = record { hyps = hyps_before place goal; concl = x } in s) (same p (sound_condition rewrite.conds rewrite.redex rewrite.contractum whole p i))))

  pub one_at : (a b : Subterm) → subterm_of place address goal ≡ Some a → subterm_of place address goal ≡ Some b → a ≡ b
  one_at a b e k = ap (value_or a) (sym e ∙ k)

  pub one_step : (kids others : List Sequent) → RewriteStep rewrite place address goal kids → RewriteStep rewrite place address goal others → kids ≡ others
  one_step kids others s o =
      let at = one_at o.at s.at o.there s.there in
      let there = subst (λ (x : Subterm). GivesTerm x.scope rewrite.redex x.term o.instance) at o.match in
      s.kids_are ∙ same_kids s.at.scope s.at.term s.instance o.instance s.match there
      ∙ ap (λ (x : Subterm). kids_by rewrite place address goal x.scope o.instance) (sym at) ∙ sym o.kids_are

  -- the step by an instance
  pub step_by : (at : Subterm) → subterm_of place address goal ≡ Some at → is_barred rewrite place goal at ≡ false → (v : Instance) → GivesTerm at.scope rewrite.redex at.term v →
      RewriteStep rewrite place address goal (kids_by rewrite place address goal at.scope v)
  step_by at there free v gives =
      let cs = rewrite.conds in
      let first = contractum_fits cs rewrite.redex rewrite.contractum whole at.scope at.term v gives in
      let others = each-all (fits (λ names. at.scope) v.values) cs
      (in-each (λ p. fits (λ names. at.scope) v.values p ≡ true) cs (condition_fits cs rewrite.redex rewrite.contractum whole at.scope at.term v gives)) in
      record {
        at = at;
        instance = v;
        there = there;
        free = free;
        match = gives;
        fits = and_true (fits (λ names. at.scope) v.values rewrite.contractum) (list_all (fits (λ names. at.scope) v.values) cs) first others;
        kids_are = refl;
      }

  module _ (good : is_good goal ≡ true) where
    goods : IsGoodGoal goal
    goods = good_goal goal good

    -- a condition leaves a goal in the scope of the place
    same_scope : (at : Subterm) → subterm_of place address goal ≡ Some at → is_barred rewrite place goal at ≡ false → (p : Pattern) → In p rewrite.conds → length (hyps_before place goal) ≡ at.scope
    same_scope at there free p i =
        let outer = (subterm_good place address goal at goods there).outer in
        let some : 0 < length rewrite.conds = some_in rewrite.conds i in
        let wide : nat_lt (length (hyps_before place goal)) at.scope ≡ false = second (nat_lt 0 (length rewrite.conds)) (nat_lt (length (hyps_before place goal)) at.scope) (grind (arith, nat_tests, some)) free in
        grind (arith, nat_tests, wide, outer)
      where
        some_in : (ps : List Pattern) → In p ps → 0 < length ps
        some_in [] j = absurd j
        some_in (q ∷ ps) j = omega arith

        second : (a b : Bool) → a ≡ true → (a && b) ≡ false → b ≡ false
        second true b e k = k
        second false b e k = absurd cc

    -- the subgoals by what is matched
    module _ (at : Subterm) (there : subterm_of place address goal ≡ Some at) (free : is_barred rewrite place goal at ≡ false) (i : Inst) (gives : GivesTerm at.scope rewrite.redex at.term (instance_of i))
        (only : (v : Instance) → GivesTerm at.scope rewrite.redex at.term v → Agrees v i) where
      abbrev v : Instance
      v = instance_of i

      abbrev found : List Sequent
      found = kids_by rewrite place address goal at.scope v

      sub : IsGoodSubterm place goal at
      sub = subterm_good place address goal at goods there

      abbrev new : Term
      new = made_by at.scope v rewrite.contractum

      first_good : within_limits_of (put_in place address new goal) ≡ true → is_good (put_in place address new goal) ≡ true
      first_good within =
          let fit = contractum_fits rewrite.conds rewrite.redex rewrite.contractum whole at.scope at.term v gives in
          let sound = sound_contractum rewrite.conds rewrite.redex rewrite.contractum whole in
          let scope = made_scoped rewrite.conds rewrite.redex rewrite.contractum whole at.scope at.term i gives only sub.few sub.shallow sub.low rewrite.contractum sound fit in
          let binders = made_few rewrite.conds rewrite.redex rewrite.contractum whole at.scope at.term i gives only sub.few sub.shallow sub.low rewrite.contractum sound fit in
          let c = changed_is place address goal at there new in
          let scoped = and_true (in_scopes_from 0 goal.hyps) (in_scope_of goal.concl (length goal.hyps)) goods.scopes goods.scope_end in
          let few = and_true (list_all few_binders_of goal.hyps) (few_binders_of goal.concl) goods.few goods.few_end in
          good_where (put_in place address new goal) (c.scoped scoped scope) (c.few few binders) within

      before : AreGoodBefore place goal
      before = before_good place goal goods

      condition_good : (p : Pattern) → In p rewrite.conds → within_limits_of (condition_by place goal at.scope v p) ≡ true → is_good (condition_by place goal at.scope v p) ≡ true
      condition_good p k within =
          let fit = condition_fits rewrite.conds rewrite.redex rewrite.contractum whole at.scope at.term v gives p k in
          let sound = sound_condition rewrite.conds rewrite.redex rewrite.contractum whole p k in
          let scope = made_scoped rewrite.conds rewrite.redex rewrite.contractum whole at.scope at.term i gives only sub.few sub.shallow sub.low p sound fit in
          let binders = made_few rewrite.conds rewrite.redex rewrite.contractum whole at.scope at.term i gives only sub.few sub.shallow sub.low p sound fit in
          let many = same_scope at there free p k in
          good_where (condition_by place goal at.scope v p)
          (and_true (in_scopes_from 0 (hyps_before place goal)) (in_scope_of (made_by at.scope v p) (length (hyps_before place goal))) before.scopes (ap (in_scope_of (made_by at.scope v p)) many ∙ scope))
          (and_true (list_all few_binders_of (hyps_before place goal)) (few_binders_of (made_by at.scope v p)) before.few_binders binders)
          within

      kid_good : (s : Sequent) → In s found → within_limits_of s ≡ true → is_good s ≡ true
      kid_good s (inl same) within = subst (λ x. is_good x ≡ true) same (first_good (ap within_limits_of same ∙ within))
      kid_good s (inr j) within = in-map (condition_by place goal at.scope v) (λ x. within_limits_of x ≡ true → is_good x ≡ true) rewrite.conds condition_good s j within

      -- the subgoals are good exactly where they are within the limits
      pub good_exactly : list_all is_good found ≡ list_all within_limits_of found
      good_exactly = by (list_all is_good found) (list_all within_limits_of found) refl refl
        where
          by : (g w : Bool) → list_all is_good found ≡ g → list_all within_limits_of found ≡ w → g ≡ w
          by true true e f = refl
          by false false e f = refl
          by true false e f = let k = limits_of_good found e in absurd cc
          by false true e f = let k = good_each found kid_good f in absurd cc

    -- ## The outcome

    -- the outcome is what instances say, and no other is
    pub record IsSettled (o : Outcome Sequent) : Type 0 where
      pub sound : IsRewriteStep rewrite place address goal o
      pub only : (q : Outcome Sequent) → IsRewriteStep rewrite place address goal q → o ≡ q

    no_address : subterm_of place address goal ≡ None → IsSettled (Err BadAddress)
    no_address e = record { sound = e; only = only }
      where
        none : (at : Subterm) → subterm_of place address goal ≡ Some at → ⊥
        none at k = let x = sym e ∙ k in absurd cc

        only : (q : Outcome Sequent) → IsRewriteStep rewrite place address goal q → Err BadAddress ≡ q
        only (Ok kids) s = absurd (none s.0.at s.0.there)
        only (Err NoMatch) s = absurd (none s.at s.there)
        only (Err BadArgument) s = absurd s
        only (Err BadAddress) s = refl
        only (Err UnderBinder) s = absurd (none s.at s.there)
        only (Err TooLarge) s = absurd (none s.step.at s.step.there)

    module _ (at : Subterm) (there : subterm_of place address goal ≡ Some at) where
      -- what is said of a subterm at the address is said of this one
      here : (P : Subterm → Type 0) (x : Subterm) → subterm_of place address goal ≡ Some x → P x → P at
      here P x k h = subst P (one_at x at k there) h

      barred_case : is_barred rewrite place goal at ≡ true → IsSettled (Err UnderBinder)
      barred_case e = record { sound = record { at = at; there = there; barred = e }; only = only }
        where
          not_free : (x : Subterm) → subterm_of place address goal ≡ Some x → is_barred rewrite place goal x ≡ false → ⊥
          not_free x k h = let f = here (λ y. is_barred rewrite place goal y ≡ false) x k h in absurd cc

          only : (q : Outcome Sequent) → IsRewriteStep rewrite place address goal q → Err UnderBinder ≡ q
          only (Ok kids) s = absurd (not_free s.0.at s.0.there s.0.free)
          only (Err NoMatch) s = absurd (not_free s.at s.there s.free)
          only (Err BadArgument) s = absurd s
          only (Err BadAddress) s = let x = sym s ∙ there in absurd cc
          only (Err UnderBinder) s = refl
          only (Err TooLarge) s = absurd (not_free s.step.at s.step.there s.step.free)

      module _ (free : is_barred rewrite place goal at ≡ false) where
        not_barred : (x : Subterm) → subterm_of place address goal ≡ Some x → is_barred rewrite place goal x ≡ true → ⊥
        not_barred x k h = let f = here (λ y. is_barred rewrite place goal y ≡ true) x k h in absurd cc

        none_case : ((v : Instance) → GivesTerm at.scope rewrite.redex at.term v → ⊥) → IsSettled (Err NoMatch)
        none_case none = record { sound = record { at = at; there = there; free = free; none = none }; only = only }
          where
            never : (kids : List Sequent) → RewriteStep rewrite place address goal kids → ⊥
            never kids s = none s.instance (here (λ (x : Subterm). GivesTerm x.scope rewrite.redex x.term s.instance) s.at s.there s.match)

            only : (q : Outcome Sequent) → IsRewriteStep rewrite place address goal q → Err NoMatch ≡ q
            only (Ok kids) s = absurd (never kids s.0)
            only (Err NoMatch) s = refl
            only (Err BadArgument) s = absurd s
            only (Err BadAddress) s = let x = sym s ∙ there in absurd cc
            only (Err UnderBinder) s = absurd (not_barred s.at s.there s.barred)
            only (Err TooLarge) s = absurd (never s.kids s.step)

        module _ (i : Inst) (gives : GivesTerm at.scope rewrite.redex at.term (instance_of i)) (alone : (v : Instance) → GivesTerm at.scope rewrite.redex at.term v → Agrees v i) where
          abbrev made : List Sequent
          made = kids_by rewrite place address goal at.scope (instance_of i)

          step : RewriteStep rewrite place address goal made
          step = step_by at there free (instance_of i) gives

          matches : (x : Subterm) → subterm_of place address goal ≡ Some x → ((v : Instance) → GivesTerm x.scope rewrite.redex x.term v → ⊥) → ⊥
          matches x k none = here (λ (y : Subterm). (v : Instance) → GivesTerm y.scope rewrite.redex y.term v → ⊥) x k none (instance_of i) gives

          found_case : (b : Bool) → list_all within_limits_of made ≡ b → IsSettled (if b then Ok made else Err TooLarge)
          found_case true e = record { sound = (step, e); only = only }
            where
              only : (q : Outcome Sequent) → IsRewriteStep rewrite place address goal q → Ok made ≡ q
              only (Ok kids) s = ap (λ ks. Ok ks) (one_step made kids step s.0)
              only (Err NoMatch) s = absurd (matches s.at s.there s.none)
              only (Err BadArgument) s = absurd s
              only (Err BadAddress) s = let x = sym s ∙ there in absurd cc
              only (Err UnderBinder) s = absurd (not_barred s.at s.there s.barred)
              only (Err TooLarge) s = let x = sym e ∙ ap (list_all within_limits_of) (one_step made s.kids step s.step) ∙ s.large in absurd cc
          found_case false e = record { sound = record { kids = made; step = step; large = e }; only = only }
            where
              only : (q : Outcome Sequent) → IsRewriteStep rewrite place address goal q → Err TooLarge ≡ q
              only (Ok kids) s = let x = sym e ∙ ap (list_all within_limits_of) (one_step made kids step s.0) ∙ s.1 in absurd cc
              only (Err NoMatch) s = absurd (matches s.at s.there s.none)
              only (Err BadArgument) s = absurd s
              only (Err BadAddress) s = let x = sym s ∙ there in absurd cc
              only (Err UnderBinder) s = absurd (not_barred s.at s.there s.barred)
              only (Err TooLarge) s = refl

        matched_case : (o : Option Inst) → IsTermInstance at.scope rewrite.redex at.term o → IsSettled (outcome_by_match rewrite place address goal at.scope o)
        matched_case None h = none_case h
        matched_case (Some i) h =
            let kids = kids_by rewrite place address goal at.scope (instance_of i) in
            subst (λ (b : Bool). IsSettled (if b then Ok kids else Err TooLarge)) (sym (good_exactly at there free i h.0 h.1)) (found_case i h.0 h.1 (list_all within_limits_of kids) refl)

      term_instance : IsTermInstance at.scope rewrite.redex at.term (term_match rewrite.redex at.scope at.term)
      term_instance =
          (term_matches_are_instances rewrite.redex at.scope at.term (fine rewrite.conds rewrite.redex rewrite.contractum whole) (redex_plain rewrite.conds rewrite.redex rewrite.contractum whole)
          (subterm_good place address goal at goods there).scoped).0

      free_cases : (b : Bool) → is_barred rewrite place goal at ≡ b →
          IsSettled (if b then Err UnderBinder else outcome_by_match rewrite place address goal at.scope (term_match rewrite.redex at.scope at.term))
      free_cases true e = barred_case e
      free_cases false e = matched_case e (term_match rewrite.redex at.scope at.term) term_instance

    at_cases : (o : Option Subterm) → subterm_of place address goal ≡ o → IsSettled (outcome_at_subterm rewrite place address goal o)
    at_cases None e = no_address e
    at_cases (Some at) e = free_cases at e (is_barred rewrite place goal at) refl

    pub outcome_is : IsSettled (rewrite_outcome rewrite place address goal)
    outcome_is = at_cases (subterm_of place address goal) refl

    -- the outcome is this one exactly where instances say so
    pub exactly : (q : Outcome Sequent) → (rewrite_outcome rewrite place address goal ≡ q) ↔ IsRewriteStep rewrite place address goal q
    exactly q = (λ e. subst (IsRewriteStep rewrite place address goal) e outcome_is.sound, λ s. outcome_is.only q s)

    -- subgoals within the limits are good
    pub step_good : (kids : List Sequent) → RewriteStep rewrite place address goal kids → list_all within_limits_of kids ≡ true → list_all is_good kids ≡ true
    step_good kids s within = by (term_match rewrite.redex s.at.scope s.at.term) (term_instance s.at s.there)
      where
        by : (o : Option Inst) → IsTermInstance s.at.scope rewrite.redex s.at.term o → list_all is_good kids ≡ true
        by None none = absurd (none s.instance s.match)
        by (Some i) h =
            let made = step_by s.at s.there s.free (instance_of i) h.0 in
            let same = one_step kids (kids_by rewrite place address goal s.at.scope (instance_of i)) s made in
            subst (λ ks. list_all is_good ks ≡ true) (sym same) (good_exactly s.at s.there s.free i h.0 h.1 ∙ ap (list_all within_limits_of) (sym same) ∙ within)

-- ## Any rewrite

pub outcomes_good : (rewrite : Rewrite) (place : Place) (address : List ℕ) (goal : Sequent) (kids : List Sequent) → rewrite_outcome rewrite place address goal ≡ Ok kids →
    (list_all is_good kids ≡ true) × (length kids ≡ length rewrite.conds + 1)
outcomes_good rewrite place address goal kids e = at_cases (subterm_of place address goal) e
  where
    each_cases : (made : List Sequent) → length made ≡ length rewrite.conds + 1 → (b : Bool) → list_all is_good made ≡ b → (if b then Ok made else Err TooLarge) ≡ Ok kids →
        (list_all is_good kids ≡ true) × (length kids ≡ length rewrite.conds + 1)
    each_cases made many true g k = let same : made ≡ kids = ap (kids_or made) k in (ap (list_all is_good) (sym same) ∙ g, ap (λ (ks : List Sequent). length ks) (sym same) ∙ many)
    each_cases made many false g k = absurd cc

    matched_cases : (scope : ℕ) (o : Option Inst) → outcome_by_match rewrite place address goal scope o ≡ Ok kids → (list_all is_good kids ≡ true) × (length kids ≡ length rewrite.conds + 1)
    matched_cases scope None k = absurd cc
    matched_cases scope (Some i) k =
        let made = kids_by rewrite place address goal scope (instance_of i) in
        each_cases made (count_kids rewrite place address goal scope (instance_of i)) (list_all is_good made) refl k

    barred_cases : (at : Subterm) (b : Bool) → (if b then Err UnderBinder else outcome_by_match rewrite place address goal at.scope (term_match rewrite.redex at.scope at.term)) ≡ Ok kids →
        (list_all is_good kids ≡ true) × (length kids ≡ length rewrite.conds + 1)
    barred_cases at true k = absurd cc
    barred_cases at false k = matched_cases at.scope (term_match rewrite.redex at.scope at.term) k

    at_cases : (o : Option Subterm) → outcome_at_subterm rewrite place address goal o ≡ Ok kids → (list_all is_good kids ≡ true) × (length kids ≡ length rewrite.conds + 1)
    at_cases None k = absurd cc
    at_cases (Some at) k = barred_cases at (is_barred rewrite place goal at) k
