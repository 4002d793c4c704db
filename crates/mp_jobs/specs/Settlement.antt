-- Settlement: what a node becomes by itself once enough of its parts is done.
use Rattle.std.specs.Prelude.{◌≡◌, ℕ, ◌-◌, ◌&&◌, Bool, true, false, List, [], ◌∷◌, map, zip, Some, None, slice_get}
use Rattle.std.specs.Option.{option_or, option_map}
use Rattle.std.specs.declared.option.Option.{Option}
use Rattle.mp_logic.specs.declared.tree.Tree.{Tree, Leaf}
use Rattle.mp_logic.specs.Meaning.{Meaning}
use Rattle.mp_logic.specs.Trees.{LeafAt, leaves_of, graft_of}
use Rattle.mp_strategy.specs.declared.tactic.Tac.{Tac}
use Rattle.mp_strategy.specs.declared.tactic.Tac.TheVariants as tac
use Rattle.mp_strategy.specs.declared.tactic.TacId.{TacId}
use Rattle.mp_strategy.specs.declared.outcome.Kind.TheVariants as kind
use Rattle.mp_strategy.specs.declared.outcome.Outcome.{Outcome}
use Rattle.mp_strategy.specs.declared.outcome.Outcome.TheVariants as outcome
use Rattle.mp_strategy.specs.declared.problem.ProblemState.{ProblemState}
use Rattle.mp_strategy.specs.declared.work.Work.{Work}
use Rattle.mp_strategy.specs.Strategies.{failure, is_leaf, as_many, left_of, progressed, completed}
use Rattle.mp_strategy.specs.Works.{work_of}
use Rattle.mp_jobs.specs.declared.node.Node.{Node, Node-F, Todo, Done, Leaves, out-Node}
use Rattle.mp_jobs.specs.declared.node.Node.TheOpen as layer
use Rattle.mp_jobs.specs.Ends.{done_of, is_failure}
use Rattle.mp_jobs.specs.Walks.{Rule, first_change}

-- what follows on a part that is done; nothing where it isn't
abbrev pub once_done : {G A : Type 0} → Option (Outcome G) → (Outcome G → Option A) → Option A
once_done None next = None
once_done (Some o) next = next o

-- the job of a strategy with so many repeats left on a leaf, with what the steps above the leaf leave of the fuel
abbrev pub leaf_job : {G : Type 0} → TacId → ℕ → ℕ → LeafAt G → Node G
leaf_job t left f leaf = Todo (record { tac = t; left = left; fuel = f - leaf.depth; goal = leaf.goal })

-- the kids up to one that failed
abbrev pub cut_by : {A : Type 0} → Bool → A → Option (List A) → Option (List A)
cut_by true k rest = Some (k ∷ [])
cut_by false k rest = option_map (λ ms. k ∷ ms) rest

-- the kids up to the leftmost one that failed; None where that is the last one, or none failed
abbrev pub cut_kids : {G : Type 0} → List (Node G) → Option (List (Node G))
cut_kids [] = None
cut_kids (k ∷ []) = None
cut_kids (k ∷ l ∷ ks) = cut_by (is_failure (done_of k)) k (cut_kids (l ∷ ks))

-- a kid that failed; after one that is a tree, one of the rest
abbrev pub failing_by : {G : Type 0} → Option (Outcome G) → Node G → Option (Node G) → Option (Node G)
failing_by None k rest = None
failing_by (Some (outcome.Failure e)) k rest = Some k
failing_by (Some (outcome.Tree t)) k rest = rest

-- the kid that failed where all kids left of it are trees
abbrev pub failing : {G : Type 0} → List (Node G) → Option (Node G)
failing [] = None
failing (k ∷ ks) = failing_by (done_of k) k (failing ks)

-- a tree before the trees of the rest
abbrev pub trees_by : {G : Type 0} → Option (Outcome G) → Option (List (Tree G)) → Option (List (Tree G))
trees_by None rest = None
trees_by (Some (outcome.Failure e)) rest = None
trees_by (Some (outcome.Tree t)) rest = option_map (λ ts. t ∷ ts) rest

-- the trees of the kids, where each of them is one
abbrev pub trees_of : {G : Type 0} → List (Node G) → Option (List (Tree G))
trees_of [] = Some []
trees_of (k ∷ ks) = trees_by (done_of k) (trees_of ks)

-- the tree with the kids' trees grafted, unless kids were cut off
abbrev pub whole_next : {G : Type 0} → Tree G → Bool → Option (List (Tree G)) → Option (Node G)
whole_next t true ts = None
whole_next t false ts = option_map (λ us. Done (outcome.Tree (graft_of t us))) ts

-- the kids of a tree's leaves: they are cut, or else the failing one is taken, or else the tree is whole
abbrev pub leaves_next : {G : Type 0} → Tree G → List (Node G) → Bool → Option (Node G)
leaves_next t ks cut = option_or (option_map (λ ms. Leaves t ms true) (cut_kids ks)) (option_or (failing ks) (whole_next t cut (trees_of ks)))

-- a kid that is a tree, or else one of the rest
abbrev pub tree_by : {G : Type 0} → Option (Outcome G) → Node G → Option (Node G) → Option (Node G)
tree_by None k rest = rest
tree_by (Some (outcome.Failure e)) k rest = rest
tree_by (Some (outcome.Tree t)) k rest = Some k

-- the leftmost kid that is a tree
abbrev pub first_tree : {G : Type 0} → List (Node G) → Option (Node G)
first_tree [] = None
first_tree (k ∷ ks) = tree_by (done_of k) k (first_tree ks)

-- whether each kid failed
abbrev pub all_failed : {G : Type 0} → List (Node G) → Bool
all_failed [] = true
all_failed (k ∷ ks) = is_failure (done_of k) && all_failed ks

-- the last one of a list
abbrev pub last_of : {A : Type 0} → List A → Option A
last_of [] = None
last_of (k ∷ []) = Some k
last_of (k ∷ l ∷ ks) = last_of (l ∷ ks)

-- the value where the test holds
abbrev pub when : {A : Type 0} → Bool → Option A → Option A
when true a = a
when false a = None

-- the branches of a race: the leftmost one that is a tree, or the last one where all failed
abbrev pub race_next : {G : Type 0} → List (Node G) → Option (Node G)
race_next ks = option_or (first_tree ks) (when (all_failed ks) (last_of ks))

-- the first part where it is a tree, and the second one where it failed
abbrev pub else_next : {G : Type 0} → Node G → Node G → Outcome G → Option (Node G)
else_next first second (outcome.Tree t) = Some first
else_next first second (outcome.Failure e) = Some second

module _ {L G J : Type 0} (meaning : L → Meaning G J) (p : ProblemState L J) where
  -- the job of strategy i of a list on leaf i
  abbrev pub listed_job : ℕ → TacId × LeafAt G → Node G
  listed_job f x = Todo (work_of p.tacs x.0 (f - x.1.depth) x.1.goal)

  -- one strategy of a list for each leaf, where there are as many of both
  abbrev pub listed : Bool → Work G → List TacId → Tree G → Node G
  listed true w bs t = Leaves t (map (listed_job w.fuel) (zip bs (leaves_of t))) false
  listed false w bs t = Done (failure kind.WrongCount w.tac.0 w.goal)

  -- a repeat goes on with each leaf, but after a tree that is a leaf it stops
  abbrev pub again : Bool → Work G → Tree G → Node G
  again true w t = Done (outcome.Tree (Leaf w.goal))
  again false w t = Leaves t (map (leaf_job w.tac (w.left - 1) w.fuel) (leaves_of t)) false

  -- how a work with this strategy goes on after its first part
  abbrev pub then_next : Option Tac → Work G → Outcome G → Option (Node G)
  then_next (Some (tac.Then a b)) w (outcome.Failure e) = Some (Done (outcome.Failure e))
  then_next (Some (tac.Then a b)) w (outcome.Tree t) = Some (Leaves t (map (leaf_job b (left_of (slice_get p.tacs b.0)) w.fuel) (leaves_of t)) false)
  then_next (Some (tac.ThenL a bs)) w (outcome.Failure e) = Some (Done (outcome.Failure e))
  then_next (Some (tac.ThenL a bs)) w (outcome.Tree t) = Some (listed (as_many bs t) w bs t)
  then_next (Some (tac.Repeat n a)) w (outcome.Failure e) = Some (Done (outcome.Tree (Leaf w.goal)))
  then_next (Some (tac.Repeat n a)) w (outcome.Tree t) = Some (again (is_leaf t) w t)
  then_next other w o = None

  -- what a work with this strategy makes of its part's outcome
  abbrev pub check_next : Option Tac → Work G → Outcome G → Option (Node G)
  check_next (Some (tac.Progress a)) w (outcome.Failure e) = Some (Done (outcome.Failure e))
  check_next (Some (tac.Progress a)) w (outcome.Tree t) = Some (Done (progressed (meaning p.logic) w.tac.0 w.goal t))
  check_next (Some (tac.Complete a)) w (outcome.Failure e) = Some (Done (outcome.Failure e))
  check_next (Some (tac.Complete a)) w (outcome.Tree t) = Some (Done (completed w.tac.0 w.goal t))
  check_next other w o = None

  -- one level of a node that is settled; None where it isn't ready
  abbrev pub settle_at : Node-F G (Node G) → Option (Node G)
  settle_at (layer.Todo w) = None
  settle_at (layer.Claimed epoch who w) = None
  settle_at (layer.Done o) = None
  settle_at (layer.Then w first) = once_done (done_of first) (then_next (slice_get p.tacs w.tac.0) w)
  settle_at (layer.Leaves tree kids cut) = leaves_next tree kids cut
  settle_at (layer.Else first second) = once_done (done_of first) (else_next first second)
  settle_at (layer.Race kids) = race_next kids
  settle_at (layer.Check w inner) = once_done (done_of inner) (check_next (slice_get p.tacs w.tac.0) w)

  -- a node that is ready is settled
  abbrev pub settle_rule : Rule G
  settle_rule n = settle_at (out-Node G n)

  -- no node of the tree is ready
  abbrev pub IsSettled : Node G → Type 0
  IsSettled n = first_change settle_rule n ≡ None
