-- A part that is still to be done, of a node that is settled, is live.
use Rattle.std.proofs.Common.{◌≡◌, Bool, true, IsTrue, List, map, Some, None}
use Rattle.std.specs.declared.option.Option.{Option}
use Rattle.std.specs.Prelude.{slice_get}
use Rattle.std.specs.List.{list_any}
use Rattle.mp_logic.specs.Meaning.{Meaning}
use Rattle.mp_strategy.specs.declared.problem.ProblemState.{ProblemState}
use Rattle.mp_strategy.specs.declared.tactic.Tac.{Tac}
use Rattle.mp_strategy.specs.declared.tactic.Tac.TheVariants as tac
use Rattle.mp_strategy.specs.declared.work.Work.{Work}
use Rattle.mp_strategy.specs.declared.outcome.Outcome.{Outcome}
use Rattle.mp_strategy.specs.declared.outcome.Outcome.TheVariants as outcome
use Rattle.mp_jobs.specs.declared.node.Node.{Node}
use Rattle.mp_jobs.specs.Ends.{done_of}
use Rattle.mp_jobs.specs.Finding.{is_live}
use Rattle.mp_jobs.specs.Settlement.{once_done, then_next, check_next, else_next, settle_rule}
use Rattle.mp_jobs.specs.Shapes.{makes_then, makes_check, Shape}
use Rattle.mp_jobs.specs.Walks.{Rule, first_change}

module _ {L G J : Type 0} (meaning : L → Meaning G J) (p : ProblemState L J) where
  abbrev rule : Rule G
  rule = settle_rule meaning p

  abbrev H : Node G → Type 0
  H = Shape meaning p

  abbrev Live : Node G → Type 0
  Live n = H n → first_change rule n ≡ None → done_of n ≡ None → is_live n ≡ true

  abbrev any_live : List (Node G) → Bool
  any_live ks = list_any (λ b. b) (map is_live ks)

  thens : (t : Option Tac) (w : Work G) (o : Outcome G) → IsTrue (makes_then t w.left) → then_next meaning p t w o ≡ None → ⊥
  thens None w o m e = absurd (cc)
  thens (Some tac.Id) w o m e = absurd (cc)
  thens (Some tac.Fail) w o m e = absurd (cc)
  thens (Some (tac.Step j)) w o m e = absurd (cc)
  thens (Some (tac.Else x z)) w o m e = absurd (cc)
  thens (Some (tac.Race bs)) w o m e = absurd (cc)
  thens (Some (tac.Progress x)) w o m e = absurd (cc)
  thens (Some (tac.Complete x)) w o m e = absurd (cc)
  thens (Some (tac.Then x z)) w (outcome.Tree t) m e = absurd (cc)
  thens (Some (tac.Then x z)) w (outcome.Failure d) m e = absurd (cc)
  thens (Some (tac.ThenL x bs)) w (outcome.Tree t) m e = absurd (cc)
  thens (Some (tac.ThenL x bs)) w (outcome.Failure d) m e = absurd (cc)
  thens (Some (tac.Repeat n x)) w (outcome.Tree t) m e = absurd (cc)
  thens (Some (tac.Repeat n x)) w (outcome.Failure d) m e = absurd (cc)

  checks : (t : Option Tac) (w : Work G) (o : Outcome G) → IsTrue (makes_check t) → check_next meaning p t w o ≡ None → ⊥
  checks None w o m e = absurd (cc)
  checks (Some tac.Id) w o m e = absurd (cc)
  checks (Some tac.Fail) w o m e = absurd (cc)
  checks (Some (tac.Step j)) w o m e = absurd (cc)
  checks (Some (tac.Then x z)) w o m e = absurd (cc)
  checks (Some (tac.ThenL x bs)) w o m e = absurd (cc)
  checks (Some (tac.Else x z)) w o m e = absurd (cc)
  checks (Some (tac.Race bs)) w o m e = absurd (cc)
  checks (Some (tac.Repeat n x)) w o m e = absurd (cc)
  checks (Some (tac.Progress x)) w (outcome.Tree t) m e = absurd (cc)
  checks (Some (tac.Progress x)) w (outcome.Failure d) m e = absurd (cc)
  checks (Some (tac.Complete x)) w (outcome.Tree t) m e = absurd (cc)
  checks (Some (tac.Complete x)) w (outcome.Failure d) m e = absurd (cc)

  pub then_live : (r : Option (Outcome G)) (w : Work G) (f : Node G) → done_of f ≡ r → once_done r (then_next meaning p (slice_get p.tacs w.tac.0) w) ≡ None → IsTrue (makes_then (slice_get p.tacs w.tac.0) w.left) → H f → first_change rule f ≡ None → Live f → is_live f ≡ true
  then_live None w f q e m s n h = h s n q
  then_live (Some o) w f q e m s n h = absurd (thens (slice_get p.tacs w.tac.0) w o m e)

  pub check_live : (r : Option (Outcome G)) (w : Work G) (f : Node G) → done_of f ≡ r → once_done r (check_next meaning p (slice_get p.tacs w.tac.0) w) ≡ None → IsTrue (makes_check (slice_get p.tacs w.tac.0)) → H f → first_change rule f ≡ None → Live f → is_live f ≡ true
  check_live None w f q e m s n h = h s n q
  check_live (Some o) w f q e m s n h = absurd (checks (slice_get p.tacs w.tac.0) w o m e)

  pub else_live : (r : Option (Outcome G)) (a b : Node G) → done_of a ≡ r → once_done r (else_next a b) ≡ None → H a → first_change rule a ≡ None → Live a → is_live a ≡ true
  else_live None a b q e s n h = h s n q
  else_live (Some (outcome.Tree t)) a b q e s n h = absurd (cc)
  else_live (Some (outcome.Failure d)) a b q e s n h = absurd (cc)
