-- What a change of a node keeps: one relation for every step.
use Rattle.std.specs.Prelude.{◌≡◌, ℕ, ◌+◌, ◌≤◌, Some}
use Rattle.mp_logic.specs.Meaning.{Meaning}
use Rattle.mp_strategy.specs.declared.outcome.Outcome.{Outcome}
use Rattle.mp_strategy.specs.declared.problem.ProblemState.{ProblemState}
use Rattle.mp_jobs.specs.declared.node.Node.{Node}
use Rattle.mp_jobs.specs.Costs.{IsWithin}
use Rattle.mp_jobs.specs.Ends.{done_of}
use Rattle.mp_jobs.specs.Epochs.{claims_under}
use Rattle.mp_jobs.specs.Shapes.{Shape}
use Rattle.mp_jobs.specs.Sizes.{size_of}
use Rattle.mp_jobs.specs.Yields.{YieldsNoMore}

module _ {L G J : Type 0} (meaning : L → Meaning G J) (p : ProblemState L J) where
  -- the new node has the shape of a node and yields no more than the old one; it is no wider, and lighter by so much; and no
  -- more leaves are claimed under an epoch, but for so many more
  pub record Kept (less : ℕ) (more : ℕ → ℕ) (new old : Node G) : Type 0 where
    pub shape : Shape meaning p new
    pub yields : YieldsNoMore meaning p new old
    pub sizes : IsWithin less (size_of meaning p new) (size_of meaning p old)
    pub epochs : (e : ℕ) → claims_under e new ≤ claims_under e old + more e

  -- a change keeps this of a node that has the shape of a node; one that is done doesn't change
  pub record Moves (less : ℕ) (more : ℕ → ℕ) (new old : Node G) : Type 0 where
    pub stays : (o : Outcome G) → done_of old ≡ Some o → new ≡ old
    pub kept : Shape meaning p old → Kept less more new old
