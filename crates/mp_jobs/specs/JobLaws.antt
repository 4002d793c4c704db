-- How the jobs of a node are found is how they are changed.
use Rattle.std.specs.Prelude.{◌≡◌, ◌||◌, ℕ, IsTrue, Some}
use Rattle.std.specs.Option.{is_some}
use Rattle.mp_logic.specs.Meaning.{Meaning}
use Rattle.mp_strategy.specs.declared.problem.ProblemState.{ProblemState}
use Rattle.mp_strategy.specs.declared.work.Work.{Work}
use Rattle.mp_strategy.specs.Works.{IsWork}
use Rattle.mp_jobs.specs.declared.node.Node.{Node}
use Rattle.mp_jobs.specs.Finding.{first_todo_of, oldest_claim_of, has_claim_of, is_live}
use Rattle.mp_jobs.specs.Jobs.{claim_rule, place_rule, reclaim_rule}
use Rattle.mp_jobs.specs.Losses.{give_back}
use Rattle.mp_jobs.specs.Shapes.{Shape}
use Rattle.mp_jobs.specs.Steps.{Steps}
use Rattle.mp_jobs.specs.Walks.{first_change}

module _ {L G J : Type 0} (meaning : L → Meaning G J) (p : ProblemState L J) where
  -- a claim finds a job exactly where one is to do
  abbrev pub TodosAreClaimed : Type 0
  TodosAreClaimed = (epoch who : ℕ) (n : Node G) → is_some (first_change (claim_rule epoch who) n) ≡ is_some (first_todo_of n)

  -- a node takes the place of a job exactly where one is claimed under the epoch with the work
  abbrev pub ClaimsArePlaced : Type 0
  ClaimsArePlaced = (epoch : ℕ) (work : Work G) (new n : Node G) → is_some (first_change (place_rule (meaning p.logic).same epoch work new) n) ≡ has_claim_of (meaning p.logic).same epoch work n

  -- the claim with the least epoch is there to be reclaimed
  abbrev pub OldestIsReclaimed : Type 0
  OldestIsReclaimed = (n : Node G) (claim : ℕ × Work G) (epoch : ℕ) → oldest_claim_of n ≡ Some claim → IsTrue (is_some (first_change (reclaim_rule claim.0 epoch) n))

  -- a job that is to do or claimed is found as one or the other
  abbrev pub LiveIsFound : Type 0
  LiveIsFound = (n : Node G) → is_live n ≡ (is_some (first_todo_of n) || is_some (oldest_claim_of n))

  -- the works of a node that has the shape of a node may be given to calls
  abbrev pub JobsAreWorks : Type 0
  JobsAreWorks = (n : Node G) → Shape meaning p n
      → ((w : Work G) → first_todo_of n ≡ Some w → IsWork meaning p w) × ((claim : ℕ × Work G) → oldest_claim_of n ≡ Some claim → IsWork meaning p claim.1)

  -- the loss of a worker is made of steps, each of which gives one claim back
  abbrev pub LossesAreSteps : Type 0
  LossesAreSteps = (who next : ℕ) (n : Node G) → Steps meaning p n next (give_back who n) next
