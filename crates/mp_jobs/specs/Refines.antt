-- When a node may stand for a work.
use Rattle.std.specs.Prelude.{◌<◌, ◌≤◌}
use Rattle.mp_logic.specs.Meaning.{Meaning}
use Rattle.mp_strategy.specs.declared.outcome.Outcome.{Outcome}
use Rattle.mp_strategy.specs.declared.problem.ProblemState.{ProblemState}
use Rattle.mp_strategy.specs.declared.work.Work.{Work}
use Rattle.mp_strategy.specs.Strategies.{Evals}
use Rattle.mp_jobs.specs.declared.node.Node.{Node}
use Rattle.mp_jobs.specs.Costs.{work_size}
use Rattle.mp_jobs.specs.Epochs.{IsUnclaimed}
use Rattle.mp_jobs.specs.Shapes.{Shape}
use Rattle.mp_jobs.specs.Sizes.{size_of}
use Rattle.mp_jobs.specs.Yields.{Yields}

-- a node refines a work: it has the shape of a node, yields only what the work gives, weighs less than the work costs, is no
-- wider than the work, and nothing in it is claimed
pub record Refines {L G J : Type 0} (meaning : L → Meaning G J) (p : ProblemState L J) (n : Node G) (work : Work G) : Type 0 where
  pub shape : Shape meaning p n
  pub yields : (o : Outcome G) → Yields meaning p n o → Evals meaning p work o
  pub lighter : (size_of meaning p n).heavy < (work_size meaning p work).heavy
  pub no_wider : (size_of meaning p n).wide ≤ (work_size meaning p work).wide
  pub unclaimed : IsUnclaimed n
