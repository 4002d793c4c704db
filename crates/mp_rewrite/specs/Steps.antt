-- The step by a rewrite, as a function.
use Rattle.std.specs.Prelude.{ℕ, List, Bool, if◌then◌else◌, Option, Some, None, Ok, Err}
use Rattle.std.specs.List.{list_all}
use Rattle.mp_logic.specs.declared.logic.Why.TheVariants.{NoMatch, BadAddress, UnderBinder, TooLarge}
use Rattle.mp_logic.specs.Steps.{Outcome}
use Rattle.mp_term.specs.declared.sequent.Sequent.{Sequent}
use Rattle.mp_schema.specs.declared.instance.Inst.{Inst}
use Rattle.mp_schema.specs.Values.{instance_of}
use Rattle.mp_match.specs.Matches.{term_match}
use Rattle.mp_theory.specs.Allowed.{is_good}
use Rattle.mp_theory.specs.declared.place.Place.{Place}
use Rattle.mp_theory.specs.declared.rewrite.Rewrite.{Rewrite}
use Rattle.mp_rewrite.specs.Addresses.{Subterm, subterm_of}
use Rattle.mp_rewrite.specs.RewriteStep.{kids_by, is_barred}

-- these subgoals, if each passes the test; else one of them is too large
abbrev pub if_each : (Sequent → Bool) → List Sequent → Outcome Sequent
if_each test kids = if list_all test kids then Ok kids else Err TooLarge

module _ (rewrite : Rewrite) (place : Place) (address : List ℕ) (goal : Sequent) where
  -- the subgoals by the instance that matches the subterm, if there is one and each subgoal is good
  abbrev pub outcome_by_match : ℕ → Option Inst → Outcome Sequent
  outcome_by_match scope None = Err NoMatch
  outcome_by_match scope (Some i) = if_each is_good (kids_by rewrite place address goal scope (instance_of i))

  -- the subgoals by the subterm at the address, if there is one and it isn't barred
  abbrev pub outcome_at_subterm : Option Subterm → Outcome Sequent
  outcome_at_subterm None = Err BadAddress
  outcome_at_subterm (Some at) =
      if is_barred rewrite place goal at then Err UnderBinder else outcome_by_match at.scope (term_match rewrite.redex at.scope at.term)

  -- the subgoals of the goal by the rewrite, or the first refusal: there is no such place or subterm; the rewrite has a
  -- condition, and the address passes a binder; the subterm is no instance of the redex; a subgoal isn't a good goal
  abbrev pub rewrite_outcome : Outcome Sequent
  rewrite_outcome = outcome_at_subterm (subterm_of place address goal)
