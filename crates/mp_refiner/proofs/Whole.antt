-- A step is what instances say.
use Rattle.std.proofs.Common.{◌≡◌, ◌≤◌, ℕ, List, map, length, Bool, true, false, Option, Some, None, if◌then◌else◌, refl, sym, ap, ◌∙◌, subst}
use Rattle.std.specs.Prelude.{◌↔◌, IsTrue, IfOk, Ok, Err, is_some}
use Rattle.std.specs.List.{list_all}
use Rattle.mp_logic.specs.declared.logic.Why.TheVariants.{NoMatch, BadArgument, TooLarge}
use Rattle.mp_logic.specs.Meaning.{IsLogic}
use Rattle.mp_logic.specs.Steps.{Outcome}
use Rattle.mp_term.specs.declared.sequent.Sequent.{Sequent}
use Rattle.mp_term.specs.Limits.{within_limits_of}
use Rattle.mp_schema.specs.declared.instance.Inst.{Inst}
use Rattle.mp_schema.specs.Sequents.{Instance, seq, schema_fits}
use Rattle.mp_schema.specs.Values.{instance_of}
use Rattle.mp_match.specs.Walks.{match_of}
use Rattle.mp_rewrite.proofs.Laws.{rewrite_law}
use Rattle.mp_theory.specs.declared.place.Place.{Place}
use Rattle.mp_theory.specs.declared.rewrite.Rewrite.{Rewrite}
use Rattle.mp_theory.specs.declared.rule.Rule.{Rule}
use Rattle.mp_theory.specs.declared.just.Given.{Given}
use Rattle.mp_theory.specs.declared.just.Just.{Just}
use Rattle.mp_theory.specs.declared.just.Just.TheVariants as just
use Rattle.mp_theory.specs.Needs.{needs_of}
use Rattle.mp_theory.specs.Tables.{Laws, rule_at, rewrite_at, IsRule, IsTheory}
use Rattle.mp_theory.proofs.Laws.{rules_of_theories, rewrites_of_theories}
use Rattle.mp_refiner.specs.Law.{IsRuleStep, IsStepAt, IsRewriteAt, IsStepFunction, StepLaw, UnallowedLaw, SomeStepFunction, OneStepFunction, StepFunctionsAreLogics}
use Rattle.mp_refiner.specs.Lawful.{lawful}
use Rattle.mp_refiner.specs.RuleStep.{MeetsAll, RuleStep}
use Rattle.mp_theory.specs.Allowed.{is_allowed, is_allowed_at, is_good}
use Rattle.mp_refiner.specs.Steps.{given_all, outcome_given, rule_outcome_matched, outcome_of, rule_outcome_at, outcome_by, step_by, meaning_of}
use Rattle.mp_refiner.proofs.Asked.{IsAsked, asked}
use Rattle.mp_refiner.proofs.Filled.{gives_first, agrees_given, gives_made, meets_made, premise_fits}
use Rattle.mp_refiner.proofs.Goods.{good_exactly}
use Rattle.mp_refiner.proofs.Matched.{IsMatch, no_match, some_match}
use Rattle.mp_refiner.proofs.Once.{one_outcome}
use Rattle.mp_schema.proofs.Lists.{in-each, each-all}

-- ## By a rule

module _ (rule : Rule) (first : Option ℕ) (given : List Given) (goal : Sequent) (whole : IsRule rule) (allowed : IsTrue (is_allowed_at (Some rule) first given)) (good : IsTrue (is_good goal)) where
  a : IsAsked rule.premises rule.concl first given goal
  a = asked rule first given goal allowed good

  abbrev Is : Outcome Sequent → Type 0
  Is o = IsRuleStep rule first given goal o

  module _ (i : Inst) (is : IsMatch rule.concl first goal i) where
    bad_case : given_all (needs_of rule.premises rule.concl) given i ≡ None → Is (Err BadArgument)
    bad_case e = record {
      instance = instance_of i;
      match = gives_first rule.premises rule.concl first given goal a i is;
      none = λ v g m. unmet (agrees_given rule.premises rule.concl first given goal a i is v g (subst (λ ns. MeetsAll v rule.concl ns given) whole.needs m));
    }
      where
        unmet : {P : Inst → Type 0} → (new : Inst) × ((given_all (needs_of rule.premises rule.concl) given i ≡ Some new) × P new) → ⊥
        unmet (new, (k, p)) = absurd (cc (sym e ∙ k))

    module _ (new : Inst) (all : given_all (needs_of rule.premises rule.concl) given i ≡ Some new) where
      abbrev made : Instance
      made = instance_of new

      abbrev found : List Sequent
      found = map (seq made) rule.premises

      step_found : RuleStep rule first given goal found
      step_found =
          let gives = gives_made rule.premises rule.concl first given goal a i is new all in
          let meets = meets_made rule.premises rule.concl first given goal a i is new all in
          record {
            instance = made;
            match = gives;
            meets = subst (λ ns. MeetsAll made rule.concl ns given) (sym whole.needs) meets;
            fits = each-all (schema_fits made) rule.premises
                (in-each (λ p. schema_fits made p ≡ true) rule.premises (premise_fits made rule.premises rule.concl first given goal a gives.fit meets));
            kids_are = refl;
          }

      found_is : (b : Bool) → list_all within_limits_of found ≡ b → Is (if b then Ok found else Err TooLarge)
      found_is true e = (step_found, e)
      found_is false e = record { kids = found; step = step_found; large = e }

    given_cases : (o : Option Inst) → given_all (needs_of rule.premises rule.concl) given i ≡ o → Is (outcome_given rule o)
    given_cases None e = bad_case e
    given_cases (Some new) e =
        let kids = map (seq (instance_of new)) rule.premises in
        subst (λ (b : Bool). Is (if b then Ok kids else Err TooLarge)) (sym (good_exactly rule.premises rule.concl first given goal a i is new e)) (found_is new e (list_all within_limits_of kids) refl)

    -- whichever match it is, the outcome by it is what instances say
    pub given_is : Is (outcome_given rule (given_all (needs_of rule.premises rule.concl) given i))
    given_is = given_cases (given_all (needs_of rule.premises rule.concl) given i) refl

  matched_cases : (o : Option Inst) → match_of rule.concl first goal ≡ o → Is (rule_outcome_matched rule given o)
  matched_cases None e = no_match rule.concl first goal a.rule.conclusion a.two a.scoped a.narrow e
  matched_cases (Some i) e = given_is i (some_match rule.concl first goal a.rule.conclusion a.two a.scoped a.narrow i e)

  step_is : Is (outcome_of rule first given goal)
  step_is = matched_cases (match_of rule.concl first goal) refl

  -- the outcome is what instances say, and nothing else
  pub is_outcome : (o : Outcome Sequent) → Is o → outcome_of rule first given goal ≡ o
  is_outcome o h = one_outcome rule first given goal whole a.two.1 a.many (outcome_of rule first given goal) o step_is h

  pub rule_exactly : (o : Outcome Sequent) → (rule_outcome_at (Some rule) first given goal ≡ o) ↔ Is o
  rule_exactly o =
      let same : rule_outcome_at (Some rule) first given goal ≡ outcome_of rule first given goal = rw allowed refl in
      (λ e. subst (λ (q : Outcome Sequent). Is q) (sym same ∙ e) step_is, λ h. same ∙ is_outcome o h)

-- ## By a law of a theory

module _ (t : Laws) (whole : IsTheory t) (goal : Sequent) (outcome : Outcome Sequent) (good : IsTrue (is_good goal)) where
  at_rule : (at : ℕ) (first : Option ℕ) (given : List Given) (o : Option Rule) → rule_at t at ≡ o → IsTrue (is_allowed_at o first given) →
      (rule_outcome_at o first given goal ≡ outcome) ↔ IsStepAt o first given goal outcome
  at_rule at first given None e allowed = absurd cc
  at_rule at first given (Some rule) e allowed = rule_exactly rule first given goal (rules_of_theories t at rule whole e) allowed good outcome

  at_rewrite : (at : ℕ) (place : Place) (address : List ℕ) (o : Option Rewrite) → rewrite_at t at ≡ o → (outcome_by o place address goal ≡ outcome) ↔ IsRewriteAt o place address goal outcome
  at_rewrite at place address None e = (λ h. sym h, λ h. sym h)
  at_rewrite at place address (Some rewrite) e = rewrite_law rewrite place address goal outcome (rewrites_of_theories t at rewrite whole e) good

pub steps_by_instances : StepLaw
steps_by_instances t (just.Rule at first given) goal outcome whole allowed good = at_rule t whole goal outcome good at first given (rule_at t at) refl allowed
steps_by_instances t (just.Rewrite at place address) goal outcome whole allowed good = at_rewrite t whole goal outcome good at place address (rewrite_at t at) refl

-- ## By what isn't allowed

unallowed_at : (o : Option Rule) (first : Option ℕ) (given : List Given) (goal : Sequent) → is_allowed_at o first given ≡ false → rule_outcome_at o first given goal ≡ Err NoMatch
unallowed_at None first given goal e = refl
unallowed_at (Some rule) first given goal e = rw e refl

unallowed_by : (o : Option Rewrite) (place : Place) (address : List ℕ) (goal : Sequent) → is_some o ≡ false → outcome_by o place address goal ≡ Err NoMatch
unallowed_by None place address goal e = refl
unallowed_by (Some rewrite) place address goal e = absurd cc

pub unallowed_steps : UnallowedLaw
unallowed_steps t (just.Rule at first given) goal e = unallowed_at (rule_at t at) first given goal e
unallowed_steps t (just.Rewrite at place address) goal e = unallowed_by (rewrite_at t at) place address goal e

-- ## Step functions

pub some_function : SomeStepFunction
some_function t whole j goal allowed good = (steps_by_instances t j goal ((meaning_of t).step j goal) whole allowed good).0 refl

its_own : (t : Laws) (step : Just → Sequent → Outcome Sequent) → IsTheory t → IsStepFunction t step → (j : Just) (goal : Sequent) → IsTrue (is_allowed t j) → IsTrue (is_good goal) → step_by t j goal ≡ step j goal
its_own t step whole is j goal allowed good = (steps_by_instances t j goal (step j goal) whole allowed good).1 (is j goal allowed good)

pub one_function : OneStepFunction
one_function t step other whole is also j goal allowed good = sym (its_own t step whole is j goal allowed good) ∙ its_own t other whole also j goal allowed good

pub logics : StepFunctionsAreLogics
logics t step whole is = record {
  keeps_good = λ j g allowed good. subst (λ (o : Outcome Sequent). IfOk o (λ kids. IsTrue (list_all is_good kids))) (its_own t step whole is j g allowed good) ((lawful t).keeps_good j g allowed good);
  within_width = λ j g allowed good. subst (λ (o : Outcome Sequent). IfOk o (λ kids. length kids ≤ (meaning_of t).width)) (its_own t step whole is j g allowed good) ((lawful t).within_width j g allowed good);
  same_is = (lawful t).same_is;
}
