-- What steps stand for that are written, in a theory, if no static rule is broken.
use Rattle.std.specs.Prelude.{ℕ, ◌-◌, nat_abs, List, [], map, Option, None, Some, unwrap_or}
use Rattle.mp_theory.specs.declared.place.Place.{Place}
use Rattle.mp_theory.specs.declared.place.Place.TheVariants as goal_place
use Rattle.mp_theory.specs.declared.rule.Rule.{Rule}
use Rattle.mp_theory.specs.declared.rule.Need.{Need}
use Rattle.mp_theory.specs.Tables.{Laws, place_of_rewrite, place_of_rule, rule_named}
use Rattle.mp_words.specs.declared.raw.RawNumber.{RawNumber}
use Rattle.mp_steptext.specs.declared.raw.RawGiven.{RawGiven}
use Rattle.mp_steptext.specs.declared.raw.RawPlace.{RawPlace}
use Rattle.mp_steptext.specs.declared.raw.RawPlace.TheVariants as raw_place
use Rattle.mp_steptext.specs.declared.raw.RawRewriteStep.{RawRewriteStep}
use Rattle.mp_steptext.specs.declared.raw.RawRuleStep.{RawRuleStep}
use Rattle.mp_steptext.specs.declared.raw.RawStep.{RawStep}
use Rattle.mp_steptext.specs.declared.raw.RawStep.TheVariants as raw
use Rattle.mp_steptext.specs.declared.body.StepValue.{StepValue}
use Rattle.mp_steptext.specs.declared.body.StepValue.TheVariants as value
use Rattle.mp_steptext.specs.Statics.{given_of}

-- the body of what is given, if it is there
abbrev pub body_in : {R : Type 0} → Option (RawGiven R) → Option R
body_in None = None
body_in (Some g) = Some g.body

-- the needs of the rule, if there is one
abbrev pub needs_at : Option Rule → List Need
needs_at None = []
needs_at (Some rule) = rule.needs

-- `at i` says that the first context has i - 1 hypotheses
abbrev pub first_hypotheses : Option RawNumber → Option ℕ
first_hypotheses None = None
first_hypotheses (Some n) = Some (nat_abs n.value - 1)

-- a number that counts from 1, counted from 0
abbrev pub from_0 : RawNumber → ℕ
from_0 n = nat_abs n.value - 1

-- the term of the goal that is rewritten in
abbrev pub place_value : RawPlace → Place
place_value raw_place.Concl = goal_place.Concl
place_value (raw_place.Hyp n) = goal_place.Hyp (from_0 n)

-- the value of a step by a rewrite
abbrev pub rewrite_step_value : {G : Type 0} → Laws → RawRewriteStep → StepValue G
rewrite_step_value t s = value.Rewrite (unwrap_or (place_of_rewrite t s.rewrite.name) 0) (place_value s.place) (map from_0 s.address)

-- what a body gives for a need
module _ {R G : Type 0} (given : Need → Option R → G) where
  -- what is given for a need
  abbrev pub given_for : List (RawGiven R) → Need → G
  given_for gs need = given need (body_in (given_of gs need.name))

  -- the value of a step by a rule: what is given stands in the order of the rule's needs
  abbrev pub rule_step_value : Laws → RawRuleStep R → StepValue G
  rule_step_value t s = value.Rule (unwrap_or (place_of_rule t s.rule.name) 0) (first_hypotheses s.place) (map (given_for s.given) (needs_at (rule_named t s.rule.name)))

  -- the value of a step
  abbrev pub step_value : Laws → RawStep R → StepValue G
  step_value t (raw.Rule s) = rule_step_value t s
  step_value t (raw.Rewrite s) = rewrite_step_value t s
