-- What is found among the jobs of a node.
use Rattle.std.specs.Prelude.{ℕ, ◌==◌, ◌&&◌, ◌||◌, nat_le, if◌then◌else◌, Bool, true, false, List, [], ◌∷◌, Some, None}
use Rattle.std.specs.List.{list_any}
use Rattle.std.specs.Option.{option_or}
use Rattle.std.specs.declared.option.Option.{Option}
use Rattle.mp_strategy.specs.declared.work.Work.{Work}
use Rattle.mp_jobs.specs.declared.node.Node.{Node, Node-F, fold-Node}
use Rattle.mp_jobs.specs.declared.node.Node.TheOpen as layer
use Rattle.mp_jobs.specs.Jobs.{same_work}

-- one level of a node: whether some job passes a test, of those that are to do or of those that are claimed
abbrev pub some_step : {G : Type 0} → (Work G → Bool) → (ℕ → ℕ → Work G → Bool) → Node-F G Bool → Bool
some_step todo claimed (layer.Todo w) = todo w
some_step todo claimed (layer.Claimed epoch who w) = claimed epoch who w
some_step todo claimed (layer.Done o) = false
some_step todo claimed (layer.Then w first) = first
some_step todo claimed (layer.Leaves tree kids cut) = list_any (λ b. b) kids
some_step todo claimed (layer.Else first second) = first || second
some_step todo claimed (layer.Race kids) = list_any (λ b. b) kids
some_step todo claimed (layer.Check w inner) = inner

-- whether some job of a node passes a test
abbrev pub some_job : {G : Type 0} → (Work G → Bool) → (ℕ → ℕ → Work G → Bool) → Node G → Bool
some_job {G} todo claimed = fold-Node G Bool (some_step todo claimed)

-- whether some job is to do or claimed
abbrev pub is_live : {G : Type 0} → Node G → Bool
is_live = some_job (λ w. true) (λ epoch who w. true)

-- whether a job is claimed under the epoch with the work
abbrev pub has_claim_of : {G : Type 0} → (G → G → Bool) → ℕ → Work G → Node G → Bool
has_claim_of same epoch work = some_job (λ w. false) (λ own who w. (own == epoch) && same_work same w work)

-- the leftmost value of a list of options
abbrev pub first_some : {A : Type 0} → List (Option A) → Option A
first_some [] = None
first_some (a ∷ rest) = option_or a (first_some rest)

-- one level of a node: the work of the leftmost job that is to do, by those of its parts
abbrev pub todo_step : {G : Type 0} → Node-F G (Option (Work G)) → Option (Work G)
todo_step (layer.Todo w) = Some w
todo_step (layer.Claimed epoch who w) = None
todo_step (layer.Done o) = None
todo_step (layer.Then w first) = first
todo_step (layer.Leaves tree kids cut) = first_some kids
todo_step (layer.Else first second) = option_or first second
todo_step (layer.Race kids) = first_some kids
todo_step (layer.Check w inner) = inner

-- the work of the leftmost job that is to do
abbrev pub first_todo_of : {G : Type 0} → Node G → Option (Work G)
first_todo_of {G} = fold-Node G (Option (Work G)) todo_step

-- the claim with the lesser epoch
abbrev pub older : {G : Type 0} → Option (ℕ × Work G) → Option (ℕ × Work G) → Option (ℕ × Work G)
older None b = b
older (Some a) None = Some a
older (Some a) (Some b) = if nat_le a.0 b.0 then Some a else Some b

-- the claim with the least epoch of a list
abbrev pub oldest : {G : Type 0} → List (Option (ℕ × Work G)) → Option (ℕ × Work G)
oldest [] = None
oldest (a ∷ rest) = older a (oldest rest)

-- one level of a node: its claim with the least epoch, by those of its parts
abbrev pub oldest_step : {G : Type 0} → Node-F G (Option (ℕ × Work G)) → Option (ℕ × Work G)
oldest_step (layer.Todo w) = None
oldest_step (layer.Claimed epoch who w) = Some (epoch, w)
oldest_step (layer.Done o) = None
oldest_step (layer.Then w first) = first
oldest_step (layer.Leaves tree kids cut) = oldest kids
oldest_step (layer.Else first second) = older first second
oldest_step (layer.Race kids) = oldest kids
oldest_step (layer.Check w inner) = inner

-- the claim with the least epoch: its epoch and its work
abbrev pub oldest_claim_of : {G : Type 0} → Node G → Option (ℕ × Work G)
oldest_claim_of {G} = fold-Node G (Option (ℕ × Work G)) oldest_step
