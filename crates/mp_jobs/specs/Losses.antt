-- The claims of a worker that is lost.
use Rattle.std.specs.Prelude.{ℕ, ◌==◌, if◌then◌else◌}
use Rattle.mp_jobs.specs.declared.node.Node.{Node, Node-F, Todo, Claimed, Done, Then, Leaves, Else, Race, Check, fold-Node}
use Rattle.mp_jobs.specs.declared.node.Node.TheOpen as layer
use Rattle.mp_jobs.specs.Epochs.{ClaimTest, claims_by}

-- a claim of this worker
abbrev pub held_by : ℕ → ClaimTest
held_by who epoch holder = holder == who

-- the number of the worker's claims
abbrev pub claims_of : {G : Type 0} → ℕ → Node G → ℕ
claims_of who = claims_by (held_by who)

-- one level of a node in which each claim of the worker is to do again
abbrev pub give_back_step : {G : Type 0} → ℕ → Node-F G (Node G) → Node G
give_back_step who (layer.Todo w) = Todo w
give_back_step who (layer.Claimed epoch holder w) = if holder == who then Todo w else Claimed epoch holder w
give_back_step who (layer.Done o) = Done o
give_back_step who (layer.Then w first) = Then w first
give_back_step who (layer.Leaves tree kids cut) = Leaves tree kids cut
give_back_step who (layer.Else first second) = Else first second
give_back_step who (layer.Race kids) = Race kids
give_back_step who (layer.Check w inner) = Check w inner

-- the node in which each claim of the worker is to do again
abbrev pub give_back : {G : Type 0} → ℕ → Node G → Node G
give_back {G} who = fold-Node G (Node G) (give_back_step who)
