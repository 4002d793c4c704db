-- What a node keeps that becomes done.
use Rattle.std.proofs.Common.{ℕ, sym, subst, arith}
use Rattle.mp_logic.specs.Meaning.{Meaning}
use Rattle.mp_strategy.specs.declared.problem.ProblemState.{ProblemState}
use Rattle.mp_strategy.specs.declared.outcome.Outcome.{Outcome}
use Rattle.mp_strategy.specs.Strategies.{Given}
use Rattle.mp_jobs.specs.declared.node.Node.{Node, Done}
use Rattle.mp_jobs.specs.Costs.{Size, IsWithin}
use Rattle.mp_jobs.specs.Epochs.{claims_under, claims_step, under}
use Rattle.mp_jobs.specs.Kept.{Kept}
use Rattle.mp_jobs.specs.Shapes.{Shape}
use Rattle.mp_jobs.specs.Sizes.{width_of, size_of}
use Rattle.mp_jobs.specs.Yields.{Yields}
use Rattle.mp_strategy.specs.Laws.{IsGood}
use Rattle.mp_jobs.proofs.DoneNodes.{done_size}
use Rattle.mp_jobs.proofs.Folds.{fold-Done}
use Rattle.mp_jobs.proofs.ShapeSteps.{shape-Done, back}
use Rattle.mp_jobs.proofs.YieldSteps.{yields-Done}

module _ {L G J : Type 0} (meaning : L → Meaning G J) (p : ProblemState L J) where
  abbrev Y : Node G → Given G
  Y = Yields meaning p

  abbrev S : Node G → Size
  S = size_of meaning p

  abbrev H : Node G → Type 0
  H = Shape meaning p

  abbrev C : ℕ → Node G → ℕ
  C e = claims_under e

  abbrev K : Node G → Node G → Type 0
  K m n = Kept meaning p 1 (λ e. 0) m n

  -- a node that becomes done with an outcome that it yields
  pub becomes_done : (n : Node G) (q : Outcome G) → IsGood (meaning p.logic) q → Y n q → IsWithin 1 (record { wide = width_of q; heavy = 0 }) (S n) → K (Done q) n
  becomes_done n q g y s = record {
    shape = back _ _ (shape-Done meaning p q) g;
    yields = λ o z. subst (λ x. Y n x) (sym (subst (λ r. r o) (yields-Done meaning p q) z)) y;
    sizes = subst (λ r. IsWithin 1 r (S n)) (sym (done_size meaning p q)) s;
    epochs = λ e. (let d = fold-Done (claims_step (under e)) q in omega (arith, d));
  }
