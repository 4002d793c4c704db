-- What a theory's steps are, in terms of instances.
use Rattle.std.specs.Prelude.{◌≡◌, ◌≤◌, ◌↔◌, ℕ, length, List, true, false, Option, Some, None, Ok, Err, IsTrue, IsSome}
use Rattle.std.specs.List.{list_all}
use Rattle.mp_logic.specs.declared.logic.Why.TheVariants.{NoMatch, BadArgument, BadAddress, UnderBinder, TooLarge}
use Rattle.mp_logic.specs.Meaning.{IsLogic}
use Rattle.mp_logic.specs.Steps.{Outcome}
use Rattle.mp_term.specs.declared.sequent.Sequent.{Sequent}
use Rattle.mp_term.specs.Limits.{within_limits_of}
use Rattle.mp_schema.specs.Conditions.{has_two_contexts}
use Rattle.mp_schema.specs.Sequents.{Instance}
use Rattle.mp_rewrite.specs.Laws.{IsRewriteStep}
use Rattle.mp_theory.specs.declared.place.Place.{Place}
use Rattle.mp_theory.specs.declared.rewrite.Rewrite.{Rewrite}
use Rattle.mp_theory.specs.declared.rule.Rule.{Rule}
use Rattle.mp_theory.specs.declared.just.Given.{Given}
use Rattle.mp_theory.specs.declared.just.Just.{Just}
use Rattle.mp_theory.specs.declared.just.Just.TheVariants as just
use Rattle.mp_theory.specs.Tables.{Laws, rule_at, rewrite_at, IsRule, IsTheory}
use Rattle.mp_schema.specs.Solutions.{GivesGoal}
use Rattle.mp_refiner.specs.RuleStep.{MeetsAll, RuleStep}
use Rattle.mp_theory.specs.Allowed.{is_allowed, is_good}
use Rattle.mp_refiner.specs.Steps.{meaning_of, meaning_with}

-- some instance has the goal as the conclusion, and none of them meets the needs as they are given
pub record Misgiven (rule : Rule) (first : Option ℕ) (given : List Given) (goal : Sequent) : Type 0 where
  pub instance : Instance
  pub match : GivesGoal rule.concl first goal instance
  pub none : (v : Instance) → GivesGoal rule.concl first goal v → MeetsAll v rule.concl rule.needs given → ⊥

-- the rule gives the goal subgoals of which some isn't within the limits
pub record LargeStep (rule : Rule) (first : Option ℕ) (given : List Given) (goal : Sequent) : Type 0 where
  pub kids : List Sequent
  pub step : RuleStep rule first given goal kids
  pub large : list_all within_limits_of kids ≡ false

-- what instances say of the answer to a step by a rule: the first refusal, in this order, or the subgoals
abbrev pub IsRuleStep : Rule → Option ℕ → List Given → Sequent → Outcome Sequent → Type 0
IsRuleStep rule first given goal (Ok kids) = RuleStep rule first given goal kids × (list_all within_limits_of kids ≡ true)
IsRuleStep rule first given goal (Err NoMatch) = (v : Instance) → GivesGoal rule.concl first goal v → ⊥
IsRuleStep rule first given goal (Err BadArgument) = Misgiven rule first given goal
IsRuleStep rule first given goal (Err BadAddress) = ⊥
IsRuleStep rule first given goal (Err UnderBinder) = ⊥
IsRuleStep rule first given goal (Err TooLarge) = LargeStep rule first given goal

-- there is no match if there is no such rule
abbrev pub IsStepAt : Option Rule → Option ℕ → List Given → Sequent → Outcome Sequent → Type 0
IsStepAt None first given goal outcome = outcome ≡ Err NoMatch
IsStepAt (Some rule) first given goal outcome = IsRuleStep rule first given goal outcome

-- there is no match if there is no such rewrite
abbrev pub IsRewriteAt : Option Rewrite → Place → List ℕ → Sequent → Outcome Sequent → Type 0
IsRewriteAt None place address goal outcome = outcome ≡ Err NoMatch
IsRewriteAt (Some rewrite) place address goal outcome = IsRewriteStep rewrite place address goal outcome

-- the outcome is what instances say of the step, by cases on what the step is by
abbrev pub IsStep : Laws → Just → Sequent → Outcome Sequent → Type 0
IsStep t (just.Rule at first given) goal outcome = IsStepAt (rule_at t at) first given goal outcome
IsStep t (just.Rewrite at place address) goal outcome = IsRewriteAt (rewrite_at t at) place address goal outcome

-- a step function of a theory: by each allowed justification it gives each good goal what instances say
abbrev pub IsStepFunction : Laws → (Just → Sequent → Outcome Sequent) → Type 0
IsStepFunction t step = (j : Just) (goal : Sequent) → IsTrue (is_allowed t j) → IsTrue (is_good goal) → IsStep t j goal (step j goal)

-- ## The laws

-- a step by an allowed justification on a good goal has exactly the outcome that instances say
abbrev pub StepLaw : Type 0
StepLaw =
    (t : Laws) (j : Just) (goal : Sequent) (outcome : Outcome Sequent) → IsTheory t → IsTrue (is_allowed t j) → IsTrue (is_good goal) →
    ((meaning_of t).step j goal ≡ outcome) ↔ IsStep t j goal outcome

-- a justification that isn't allowed gives no subgoals
abbrev pub UnallowedLaw : Type 0
UnallowedLaw = (t : Laws) (j : Just) (goal : Sequent) → is_allowed t j ≡ false → (meaning_of t).step j goal ≡ Err NoMatch

-- a rule of a theory gives a goal of at most 200 hypotheses at most one list of subgoals for the same arguments, whatever else
-- the goal is, if the size of the first context is said where the rule's conclusion has two
abbrev pub OneListOfSubgoals : Type 0
OneListOfSubgoals =
    (rule : Rule) (first : Option ℕ) (given : List Given) (goal : Sequent) (kids others : List Sequent) → IsRule rule → (IsTrue (has_two_contexts rule.concl) → IsSome first) → length goal.hyps ≤ 200 →
    RuleStep rule first given goal kids → RuleStep rule first given goal others → kids ≡ others

-- the steps of a theory are a step function of it
abbrev pub SomeStepFunction : Type 0
SomeStepFunction = (t : Laws) → IsTheory t → IsStepFunction t (meaning_of t).step

-- any two step functions of a theory give an allowed justification and a good goal the same
abbrev pub OneStepFunction : Type 0
OneStepFunction =
    (t : Laws) (step other : Just → Sequent → Outcome Sequent) → IsTheory t → IsStepFunction t step → IsStepFunction t other →
    (j : Just) (goal : Sequent) → IsTrue (is_allowed t j) → IsTrue (is_good goal) → step j goal ≡ other j goal

-- each step function of a theory is that of a logic: it keeps goals good, and gives no more subgoals than the width
abbrev pub StepFunctionsAreLogics : Type 0
StepFunctionsAreLogics = (t : Laws) (step : Just → Sequent → Outcome Sequent) → IsTheory t → IsStepFunction t step → IsLogic (meaning_with step t)
