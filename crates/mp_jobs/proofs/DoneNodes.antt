-- What a node that is done yields, and its size.
use Rattle.std.proofs.Common.{◌≡◌, refl, ap, sym, subst, ◌∙◌, Some}
use Rattle.mp_logic.specs.Meaning.{Meaning}
use Rattle.mp_strategy.specs.declared.problem.ProblemState.{ProblemState}
use Rattle.mp_strategy.specs.declared.outcome.Outcome.{Outcome}
use Rattle.mp_strategy.specs.Laws.{IsGood}
use Rattle.mp_jobs.specs.declared.node.Node.{Node, Done}
use Rattle.mp_jobs.specs.Ends.{done_of}
use Rattle.mp_jobs.specs.Shapes.{Shape}
use Rattle.mp_jobs.specs.Sizes.{width_of, size_of, size_step}
use Rattle.mp_jobs.specs.Yields.{Yields}
use Rattle.mp_jobs.proofs.Done.{is_done}
use Rattle.mp_jobs.proofs.Folds.{fold-Done}
use Rattle.mp_jobs.proofs.ShapeSteps.{shape-Done, into}
use Rattle.mp_jobs.proofs.YieldSteps.{yields-Done}

module _ {L G J : Type 0} (meaning : L → Meaning G J) (p : ProblemState L J) where
  -- it yields its outcome, and no other one
  pub yields_own : (n : Node G) (o : Outcome G) → done_of n ≡ Some o → Yields meaning p n o
  yields_own n o e = subst (λ x. Yields meaning p x o) (sym (is_done n o e)) (subst (λ q. q o) (sym (yields-Done meaning p o)) refl)

  pub yields_only : (n : Node G) (q o : Outcome G) → done_of n ≡ Some q → Yields meaning p n o → o ≡ q
  yields_only n q o e y = subst (λ x. x o) (yields-Done meaning p q) (subst (λ x. Yields meaning p x o) (is_done n q e) y)

  pub done_size : (o : Outcome G) → size_of meaning p (Done o) ≡ record { wide = width_of o; heavy = 0 }
  done_size o = fold-Done (size_step meaning p) o

  pub size_done : (n : Node G) (o : Outcome G) → done_of n ≡ Some o → size_of meaning p n ≡ record { wide = width_of o; heavy = 0 }
  size_done n o e = ap (size_of meaning p) (is_done n o e) ∙ done_size o

  -- its outcome is good where it has the shape of a node
  pub good_own : (n : Node G) (o : Outcome G) → done_of n ≡ Some o → Shape meaning p n → IsGood (meaning p.logic) o
  good_own n o e h = into _ _ (shape-Done meaning p o) (subst (Shape meaning p) (is_done n o e) h)
