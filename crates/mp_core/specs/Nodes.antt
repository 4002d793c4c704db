-- What a machine asks of a node and does to it. A node here is one job, to do, claimed or done.
use Rattle.std.specs.Prelude.{◌≡◌, ℕ, ◌==◌, if◌then◌else◌, List, [], ◌∷◌, Some, None}
use Rattle.std.specs.declared.option.Option.{Option}
use Rattle.mp_strategy.specs.declared.work.Work.{Work}
use Rattle.mp_strategy.specs.declared.outcome.Outcome.{Outcome}
use Rattle.mp_core.specs.declared.node.Node.{Node}
use Rattle.mp_core.specs.declared.node.Node.TheVariants as node

-- a job of the work that is the worker's, under the epoch
abbrev pub claim_by : {G : Type 0} → Work G → ℕ → ℕ → Node G
claim_by work epoch who = node.Claimed epoch who work

-- a node on which every settlement was made: one job has none to make
abbrev pub settled : {G : Type 0} → Node G → Node G
settled n = n

-- the outcome of a node that is done
abbrev pub done_of : {G : Type 0} → Node G → Option (Outcome G)
done_of (node.Todo work) = None
done_of (node.Claimed epoch who work) = None
done_of (node.Done o) = Some o

-- the work of the leftmost job that is to do
abbrev pub first_todo : {G : Type 0} → Node G → Option (Work G)
first_todo (node.Todo work) = Some work
first_todo (node.Claimed epoch who work) = None
first_todo (node.Done o) = None

-- the leftmost job that is to do becomes the worker's, under the epoch
abbrev pub claim_first : {G : Type 0} → ℕ → ℕ → Node G → Node G
claim_first epoch who (node.Todo work) = claim_by work epoch who
claim_first epoch who (node.Claimed own holder work) = node.Claimed own holder work
claim_first epoch who (node.Done o) = node.Done o

-- the claim with the least epoch: its epoch and its work
abbrev pub oldest_claim : {G : Type 0} → Node G → Option (ℕ × Work G)
oldest_claim (node.Todo work) = None
oldest_claim (node.Claimed epoch who work) = Some (epoch, work)
oldest_claim (node.Done o) = None

-- the claim under the old epoch becomes worker 0's, under the new one
abbrev pub reclaim : {G : Type 0} → ℕ → ℕ → Node G → Node G
reclaim old new (node.Todo work) = node.Todo work
reclaim old new (node.Claimed own holder work) = if own == old then claim_by work new 0 else node.Claimed own holder work
reclaim old new (node.Done o) = node.Done o

-- how many claims the worker has
abbrev pub claims_of : {G : Type 0} → ℕ → Node G → ℕ
claims_of who (node.Todo work) = 0
claims_of who (node.Claimed epoch holder work) = if holder == who then 1 else 0
claims_of who (node.Done o) = 0

-- each claim of the worker is to do again
abbrev pub give_back : {G : Type 0} → ℕ → Node G → Node G
give_back who (node.Todo work) = node.Todo work
give_back who (node.Claimed epoch holder work) = if holder == who then node.Todo work else node.Claimed epoch holder work
give_back who (node.Done o) = node.Done o

-- a job is claimed under the epoch, and has this work
abbrev pub HasClaim : {G : Type 0} → ℕ → Work G → Node G → Type 0
HasClaim epoch work (node.Todo own) = ⊥
HasClaim epoch work (node.Claimed own who held) = (own ≡ epoch) × (held ≡ work)
HasClaim epoch work (node.Done o) = ⊥

-- the job that is claimed under the epoch becomes the new node
abbrev pub place : {G : Type 0} → ℕ → Node G → Node G → Node G
place epoch new (node.Todo work) = node.Todo work
place epoch new (node.Claimed own who work) = if own == epoch then new else node.Claimed own who work
place epoch new (node.Done o) = node.Done o

-- the epochs under which the jobs of a node are claimed
abbrev pub epochs_of : {G : Type 0} → Node G → List ℕ
epochs_of (node.Todo work) = []
epochs_of (node.Claimed epoch who work) = epoch ∷ []
epochs_of (node.Done o) = []
