-- The epochs under which the jobs of a node are claimed.
use Rattle.std.specs.Prelude.{◌≡◌, ℕ, ◌+◌, ◌==◌, ◌≤◌, Bool, true, false, List, [], ◌∷◌}
use Rattle.mp_jobs.specs.declared.node.Node.{Node, Node-F, fold-Node}
use Rattle.mp_jobs.specs.declared.node.Node.TheOpen as layer

-- the sum of several numbers
abbrev pub total : List ℕ → ℕ
total [] = 0
total (n ∷ ns) = n + total ns

-- 1 where the test holds, and 0 else
abbrev pub one_if : Bool → ℕ
one_if true = 1
one_if false = 0

-- a test of claims, by their epochs and workers
abbrev pub ClaimTest : Type 0
ClaimTest = ℕ → ℕ → Bool

-- a claim under this epoch
abbrev pub under : ℕ → ClaimTest
under e epoch who = epoch == e

-- how many claims pass a test in one level of a node, by those of its parts
abbrev pub claims_step : {G : Type 0} → ClaimTest → Node-F G ℕ → ℕ
claims_step test (layer.Todo work) = 0
claims_step test (layer.Claimed epoch who work) = one_if (test epoch who)
claims_step test (layer.Done o) = 0
claims_step test (layer.Then work first) = first
claims_step test (layer.Leaves tree kids cut) = total kids
claims_step test (layer.Else first second) = first + second
claims_step test (layer.Race kids) = total kids
claims_step test (layer.Check work inner) = inner

-- how many claims of a node pass a test
abbrev pub claims_by : {G : Type 0} → ClaimTest → Node G → ℕ
claims_by {G} test = fold-Node G ℕ (claims_step test)

-- how many leaves are claimed under an epoch
abbrev pub claims_under : {G : Type 0} → ℕ → Node G → ℕ
claims_under e = claims_by (under e)

-- no leaf is claimed
abbrev pub IsUnclaimed : {G : Type 0} → Node G → Type 0
IsUnclaimed n = (e : ℕ) → claims_under e n ≡ 0

-- no epoch stands in two leaves
abbrev pub HasDistinctEpochs : {G : Type 0} → Node G → Type 0
HasDistinctEpochs n = (e : ℕ) → claims_under e n ≤ 1

-- each epoch that stands in a leaf is below the next one
abbrev pub HasEpochsBelow : {G : Type 0} → ℕ → Node G → Type 0
HasEpochsBelow next n = (e : ℕ) → next ≤ e → claims_under e n ≡ 0
