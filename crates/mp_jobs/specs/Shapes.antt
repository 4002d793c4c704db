-- The shape of a node: what each call on it may rely on.
use Rattle.std.specs.Prelude.{◌≡◌, ℕ, Bool, true, false, IsTrue, nat_lt, List, [], ◌∷◌, map, length, Some, slice_get}
use Rattle.std.specs.declared.option.Option.{Option}
use Rattle.std.specs.List.{AllByRecursion}
use Rattle.mp_logic.specs.declared.tree.Tree.{Tree}
use Rattle.mp_logic.specs.Meaning.{Meaning}
use Rattle.mp_logic.specs.Trees.{leaf_count_of}
use Rattle.mp_logic.specs.Valid.{EachGoal}
use Rattle.mp_strategy.specs.declared.tactic.Tac.{Tac}
use Rattle.mp_strategy.specs.declared.tactic.Tac.TheVariants as tac
use Rattle.mp_strategy.specs.declared.outcome.Outcome.{Outcome}
use Rattle.mp_strategy.specs.declared.problem.ProblemState.{ProblemState}
use Rattle.mp_strategy.specs.Laws.{IsGood}
use Rattle.mp_strategy.specs.Works.{IsWork}
use Rattle.mp_jobs.specs.declared.node.Node.{Node, Node-F}
use Rattle.mp_jobs.specs.declared.node.Node.TheOpen as layer
use Rattle.mp_jobs.specs.declared.node.Node.TheFolds.{rec-Node}
use Rattle.mp_jobs.specs.Ends.{done_of, is_failure}

-- whether a work of this strategy with so many repeats left expands to a Then node
abbrev pub makes_then : Option Tac → ℕ → Bool
makes_then (Some (tac.Then a b)) left = true
makes_then (Some (tac.ThenL a bs)) left = true
makes_then (Some (tac.Repeat n a)) left = nat_lt 0 left
makes_then other left = false

-- whether a work of this strategy expands to a Check node
abbrev pub makes_check : Option Tac → Bool
makes_check (Some (tac.Progress a)) = true
makes_check (Some (tac.Complete a)) = true
makes_check other = false

-- the last one is a failure
abbrev pub LastFails : {G : Type 0} → List (Option (Outcome G)) → Type 0
LastFails [] = ⊥
LastFails (r ∷ []) = IsTrue (is_failure r)
LastFails (r ∷ s ∷ rs) = LastFails (s ∷ rs)

-- as many kids as the tree has leaves; where kids were cut off there is a last one, and it failed
abbrev pub KidsFit : {G : Type 0} → Tree G → List (Option (Outcome G)) → Bool → Type 0
KidsFit t results false = length results ≡ leaf_count_of t
KidsFit t results true = LastFails results

module _ {L G J : Type 0} (meaning : L → Meaning G J) (p : ProblemState L J) where
  -- each goal of a tree is good
  abbrev pub IsGoodTree : Tree G → Type 0
  IsGoodTree t = EachGoal (λ g. IsTrue ((meaning p.logic).good g)) t

  -- the shape of one level of a node, by that of its parts
  abbrev pub shape_step : (X : Type 0) → (X → Node G) → (X → Type 0) → Node-F G X → Type 0
  shape_step X node shape (layer.Todo w) = IsWork meaning p w
  shape_step X node shape (layer.Claimed epoch who w) = IsWork meaning p w
  shape_step X node shape (layer.Done o) = IsGood (meaning p.logic) o
  shape_step X node shape (layer.Then w first) = IsWork meaning p w × IsTrue (makes_then (slice_get p.tacs w.tac.0) w.left) × shape first
  shape_step X node shape (layer.Leaves t kids cut) = IsGoodTree t × AllByRecursion shape kids × KidsFit t (map (λ k. done_of (node k)) kids) cut
  shape_step X node shape (layer.Else first second) = shape first × shape second
  shape_step X node shape (layer.Race kids) = IsTrue (nat_lt 0 (length kids)) × AllByRecursion shape kids
  shape_step X node shape (layer.Check w inner) = IsWork meaning p w × IsTrue (makes_check (slice_get p.tacs w.tac.0)) × shape inner

  -- each work in the node may be given to calls, and each goal of an outcome or a tree in it is good; the works of Then and
  -- Check nodes expand to such nodes, a race has a branch, and the kids of a tree fit its leaves
  abbrev pub Shape : Node G → Type 0
  Shape n = rec-Node G (Type 0) shape_step n
