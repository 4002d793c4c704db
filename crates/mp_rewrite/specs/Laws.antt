-- What steps by rewrites are, in terms of instances, and the laws of them.
use Rattle.std.specs.Prelude.{◌≡◌, ◌+◌, ◌↔◌, ℕ, length, List, true, false, Some, None, Ok, Err, IsTrue}
use Rattle.std.specs.List.{list_all}
use Rattle.mp_logic.specs.declared.logic.Why.TheVariants.{NoMatch, BadArgument, BadAddress, UnderBinder, TooLarge}
use Rattle.mp_logic.specs.Steps.{Outcome}
use Rattle.mp_term.specs.declared.sequent.Sequent.{Sequent}
use Rattle.mp_term.specs.Limits.{within_limits_of}
use Rattle.mp_schema.specs.Sequents.{Instance}
use Rattle.mp_schema.specs.Solutions.{GivesTerm}
use Rattle.mp_theory.specs.Allowed.{is_good}
use Rattle.mp_theory.specs.Tables.{IsRewrite}
use Rattle.mp_theory.specs.declared.place.Place.{Place}
use Rattle.mp_theory.specs.declared.rewrite.Rewrite.{Rewrite}
use Rattle.mp_rewrite.specs.Addresses.{Subterm, subterm_of}
use Rattle.mp_rewrite.specs.RewriteStep.{RewriteStep, is_barred}
use Rattle.mp_rewrite.specs.Steps.{rewrite_outcome}

-- there is a subterm at the address, the rewrite has a condition, and the address passes a binder
pub record Barred (rewrite : Rewrite) (place : Place) (address : List ℕ) (goal : Sequent) : Type 0 where
  pub at : Subterm
  pub there : subterm_of place address goal ≡ Some at
  pub barred : is_barred rewrite place goal at ≡ true

-- there is a subterm at the address that may be rewritten, and no instance gives it as the redex
pub record Unmatched (rewrite : Rewrite) (place : Place) (address : List ℕ) (goal : Sequent) : Type 0 where
  pub at : Subterm
  pub there : subterm_of place address goal ≡ Some at
  pub free : is_barred rewrite place goal at ≡ false
  pub none : (v : Instance) → GivesTerm at.scope rewrite.redex at.term v → ⊥

-- the rewrite gives the goal subgoals of which some isn't within the limits
pub record LargeRewriteStep (rewrite : Rewrite) (place : Place) (address : List ℕ) (goal : Sequent) : Type 0 where
  pub kids : List Sequent
  pub step : RewriteStep rewrite place address goal kids
  pub large : list_all within_limits_of kids ≡ false

-- what instances say of the answer to a step by a rewrite: the first refusal, in this order, or the subgoals
abbrev pub IsRewriteStep : Rewrite → Place → List ℕ → Sequent → Outcome Sequent → Type 0
IsRewriteStep rewrite place address goal (Ok kids) = RewriteStep rewrite place address goal kids × (list_all within_limits_of kids ≡ true)
IsRewriteStep rewrite place address goal (Err NoMatch) = Unmatched rewrite place address goal
IsRewriteStep rewrite place address goal (Err BadArgument) = ⊥
IsRewriteStep rewrite place address goal (Err BadAddress) = subterm_of place address goal ≡ None
IsRewriteStep rewrite place address goal (Err UnderBinder) = Barred rewrite place address goal
IsRewriteStep rewrite place address goal (Err TooLarge) = LargeRewriteStep rewrite place address goal

-- ## The laws

-- a step by a rewrite of a theory on a good goal has exactly the outcome that instances say
abbrev pub RewriteLaw : Type 0
RewriteLaw =
    (rewrite : Rewrite) (place : Place) (address : List ℕ) (goal : Sequent) (outcome : Outcome Sequent) → IsRewrite rewrite → IsTrue (is_good goal) →
    (rewrite_outcome rewrite place address goal ≡ outcome) ↔ IsRewriteStep rewrite place address goal outcome

-- a rewrite of a theory gives a goal at most one list of subgoals at one address, whatever else the goal is
abbrev pub OneRewriting : Type 0
OneRewriting =
    (rewrite : Rewrite) (place : Place) (address : List ℕ) (goal : Sequent) (kids others : List Sequent) → IsRewrite rewrite →
    RewriteStep rewrite place address goal kids → RewriteStep rewrite place address goal others → kids ≡ others

-- subgoals of a good goal that are within the limits are good
abbrev pub GoodRewriting : Type 0
GoodRewriting =
    (rewrite : Rewrite) (place : Place) (address : List ℕ) (goal : Sequent) (kids : List Sequent) → IsRewrite rewrite → IsTrue (is_good goal) →
    RewriteStep rewrite place address goal kids → list_all within_limits_of kids ≡ true → list_all is_good kids ≡ true

-- there is one subgoal more than the rewrite has conditions
abbrev pub CountOfRewriting : Type 0
CountOfRewriting =
    (rewrite : Rewrite) (place : Place) (address : List ℕ) (goal : Sequent) (kids : List Sequent) →
    RewriteStep rewrite place address goal kids → length kids ≡ length rewrite.conds + 1

-- whatever the rewrite and the goal are, an outcome's subgoals are good, and one more than the conditions
abbrev pub GoodOutcomes : Type 0
GoodOutcomes =
    (rewrite : Rewrite) (place : Place) (address : List ℕ) (goal : Sequent) (kids : List Sequent) →
    rewrite_outcome rewrite place address goal ≡ Ok kids → (list_all is_good kids ≡ true) × (length kids ≡ length rewrite.conds + 1)
