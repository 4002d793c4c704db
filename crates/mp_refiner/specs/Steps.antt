-- The logic of a theory.
use Rattle.std.specs.Prelude.{ℕ, List, [], ◌∷◌, map, Bool, true, false, ◌&&◌, if◌then◌else◌, Option, Some, None, option_and_then, Ok, Err}
use Rattle.mp_logic.specs.declared.logic.Why.TheVariants.{NoMatch, BadArgument}
use Rattle.mp_logic.specs.Meaning.{Meaning}
use Rattle.mp_logic.specs.Steps.{Outcome}
use Rattle.mp_term.specs.declared.sequent.Sequent.{Sequent}
use Rattle.mp_term.specs.declared.term.Term.{Term}
use Rattle.mp_term.specs.Equality.{same_term}
use Rattle.mp_schema.specs.declared.instance.Inst.{Inst}
use Rattle.mp_schema.specs.Sequents.{seq}
use Rattle.mp_schema.specs.Values.{instance_of}
use Rattle.mp_match.specs.Giving.{given_to}
use Rattle.mp_match.specs.Walks.{match_of}
use Rattle.mp_rewrite.specs.Steps.{if_each, rewrite_outcome}
use Rattle.mp_theory.specs.declared.place.Place.{Place}
use Rattle.mp_theory.specs.declared.rewrite.Rewrite.{Rewrite}
use Rattle.mp_theory.specs.declared.rule.Need.{Need}
use Rattle.mp_theory.specs.declared.rule.Rule.{Rule}
use Rattle.mp_theory.specs.declared.just.Given.{Given}
use Rattle.mp_theory.specs.declared.just.Just.{Just}
use Rattle.mp_theory.specs.declared.just.Just.TheVariants as just
use Rattle.mp_theory.specs.Allowed.{is_good, is_allowed_at, is_allowed}
use Rattle.mp_theory.specs.Needs.{needs_of}
use Rattle.mp_theory.specs.Tables.{Laws, rule_at, rewrite_at, width_of}

-- the instance with the values of the needs; None if a given term uses another variable than its need may
abbrev pub given_all : List Need → List Given → Inst → Option Inst
given_all [] gs i = Some i
given_all (n ∷ ns) [] i = Some i
given_all (n ∷ ns) (g ∷ gs) i = option_and_then (given_all ns gs) (given_to i n.name n.ctxs n.arity g.body)

-- the instances of the rule's premises, in order
abbrev pub kids_of : Rule → Inst → List Sequent
kids_of rule i = map (seq (instance_of i)) rule.premises

-- the subgoals by the instance with what is given, if there is one and each subgoal is good
abbrev pub outcome_given : Rule → Option Inst → Outcome Sequent
outcome_given rule None = Err BadArgument
outcome_given rule (Some i) = if_each is_good (kids_of rule i)

-- the subgoals by the instance that matches, if there is one
abbrev pub rule_outcome_matched : Rule → List Given → Option Inst → Outcome Sequent
rule_outcome_matched rule given None = Err NoMatch
rule_outcome_matched rule given (Some i) = outcome_given rule (given_all (needs_of rule.premises rule.concl) given i)

-- the subgoals of the goal by the rule, or the first refusal: the goal is no instance of the conclusion; a given term
-- names a hypothesis that it may not; a subgoal isn't a good goal
abbrev pub outcome_of : Rule → Option ℕ → List Given → Sequent → Outcome Sequent
outcome_of rule first given goal = rule_outcome_matched rule given (match_of rule.concl first goal)

-- the subgoals by the rule, if it is there and may be asked so; no goal is an instance where it isn't
abbrev pub rule_outcome_at : Option Rule → Option ℕ → List Given → Sequent → Outcome Sequent
rule_outcome_at None first given goal = Err NoMatch
rule_outcome_at (Some rule) first given goal = if is_allowed_at (Some rule) first given then outcome_of rule first given goal else Err NoMatch

-- the subgoals by the rewrite, if it is there; no goal is an instance where it isn't
abbrev pub outcome_by : Option Rewrite → Place → List ℕ → Sequent → Outcome Sequent
outcome_by None place address goal = Err NoMatch
outcome_by (Some rewrite) place address goal = rewrite_outcome rewrite place address goal

-- the step by a justification; one that isn't allowed gives no subgoals
abbrev pub step_by : Laws → Just → Sequent → Outcome Sequent
step_by t (just.Rule at first given) goal = rule_outcome_at (rule_at t at) first given goal
step_by t (just.Rewrite at place address) goal = outcome_by (rewrite_at t at) place address goal

-- the lists have the same terms in the same order
abbrev pub same_terms : List Term → List Term → Bool
same_terms [] [] = true
same_terms [] (u ∷ us) = false
same_terms (t ∷ ts) [] = false
same_terms (t ∷ ts) (u ∷ us) = same_term t u && same_terms ts us

-- the sequents have the same hypotheses and the same conclusion
abbrev pub same_goal : Sequent → Sequent → Bool
same_goal a b = same_terms a.hyps b.hyps && same_term a.concl b.concl

-- what the logic of a theory means if this is its step: its goals are sequents, and its steps are by the theory's laws
abbrev pub meaning_with : (Just → Sequent → Outcome Sequent) → Laws → Meaning Sequent Just
meaning_with step t = record { good = is_good; allowed = is_allowed t; step = step; same = same_goal; width = width_of t }

-- what the logic of a theory means
abbrev pub meaning_of : Laws → Meaning Sequent Just
meaning_of t = meaning_with (step_by t) t
