-- Rules that change jobs: those that are to do, and those that are claimed.
use Rattle.std.specs.Prelude.{ℕ, ◌==◌, ◌&&◌, Bool, true, false, Some, None}
use Rattle.std.specs.declared.option.Option.{Option}
use Rattle.mp_strategy.specs.declared.work.Work.{Work}
use Rattle.mp_jobs.specs.declared.node.Node.{Node, Node-F, Todo, Claimed, out-Node}
use Rattle.mp_jobs.specs.declared.node.Node.TheOpen as layer
use Rattle.mp_jobs.specs.Walks.{Rule}

-- what becomes of a job that is to do; any other node stays
abbrev pub on_todo : {G : Type 0} → (Work G → Option (Node G)) → Node-F G (Node G) → Option (Node G)
on_todo f (layer.Todo w) = f w
on_todo f (layer.Claimed epoch who w) = None
on_todo f (layer.Done o) = None
on_todo f (layer.Then w first) = None
on_todo f (layer.Leaves tree kids cut) = None
on_todo f (layer.Else first second) = None
on_todo f (layer.Race kids) = None
on_todo f (layer.Check w inner) = None

-- what becomes of a job that is claimed, by its epoch, its worker and its work; any other node stays
abbrev pub on_claim : {G : Type 0} → (ℕ → ℕ → Work G → Option (Node G)) → Node-F G (Node G) → Option (Node G)
on_claim f (layer.Todo w) = None
on_claim f (layer.Claimed epoch who w) = f epoch who w
on_claim f (layer.Done o) = None
on_claim f (layer.Then w first) = None
on_claim f (layer.Leaves tree kids cut) = None
on_claim f (layer.Else first second) = None
on_claim f (layer.Race kids) = None
on_claim f (layer.Check w inner) = None

-- the value where the test holds
abbrev pub some_if : {A : Type 0} → Bool → A → Option A
some_if true a = Some a
some_if false a = None

-- whether two works are equal, by a test of goals
abbrev pub same_work : {G : Type 0} → (G → G → Bool) → Work G → Work G → Bool
same_work same a b = (a.tac.0 == b.tac.0) && ((a.left == b.left) && ((a.fuel == b.fuel) && same a.goal b.goal))

module _ {G : Type 0} where
  -- a job that is to do becomes the worker's, under the epoch
  abbrev pub claim_rule : ℕ → ℕ → Rule G
  claim_rule epoch who n = on_todo (λ w. Some (Claimed epoch who w)) (out-Node G n)

  -- the job that is claimed under the epoch with the work becomes the node
  abbrev pub place_rule : (G → G → Bool) → ℕ → Work G → Node G → Rule G
  place_rule same epoch work new n = on_claim (λ own who w. some_if ((own == epoch) && same_work same w work) new) (out-Node G n)

  -- the claim under the old epoch becomes worker 0's, under the new one
  abbrev pub reclaim_rule : ℕ → ℕ → Rule G
  reclaim_rule old epoch n = on_claim (λ own who w. some_if (own == old) (Claimed epoch 0 w)) (out-Node G n)

  -- a claim of the worker is to do again
  abbrev pub lose_rule : ℕ → Rule G
  lose_rule who n = on_claim (λ own holder w. some_if (holder == who) (Todo w)) (out-Node G n)
