-- What is said of a tree and a goal.
use Rattle.std.specs.Prelude.{◌≡◌, ◌≢◌, ℕ, ◌+◌, List, ◌∷◌, ◌++◌, map, length, Some, Ok, Err, slice_get}
use Rattle.std.specs.List.{AllByRecursion}
use Rattle.mp_logic.specs.declared.tree.Tree.{Tree}
use Rattle.mp_logic.specs.declared.tree.Tree.TheOpen as layer
use Rattle.mp_logic.specs.Steps.{Outcome}
use Rattle.mp_logic.specs.Trees.{root_of, leaf_count_of, counted}
use Rattle.mp_logic.specs.Valid.{StepHolds, IsValid}
use Rattle.mp_replay.specs.Nodes.{Node, preorder_of}
use Rattle.mp_replay.specs.declared.verdict.BadCause.{BadCause}
use Rattle.mp_replay.specs.declared.verdict.BadCause.TheVariants as cause
use Rattle.mp_replay.specs.declared.verdict.Verdict.{Verdict}
use Rattle.mp_replay.specs.declared.verdict.Verdict.TheVariants as verdict

module _ {G J : Type 0} (step : J → G → Outcome G) (justs : List J) where
  -- what is wrong with a node: its step is refused, or gives other subgoals than the kids' goals
  abbrev pub IsBad : Node G → BadCause G → Type 0
  IsBad (layer.Leaf g) c = ⊥
  IsBad (layer.Step g just kids) cause.Goal = ⊥
  IsBad (layer.Step g just kids) (cause.Refused why) = (j : J) × (slice_get justs just.0 ≡ Some j) × (step j g ≡ Err why)
  IsBad (layer.Step g just kids) (cause.Kids found due) =
      (j : J) × (slice_get justs just.0 ≡ Some j) × (step j g ≡ Ok due) × (found ≡ map root_of kids) × (found ≢ due)

  -- the first bad node of a list has so many nodes before it, each of them a leaf or a justified step; and this is wrong with it
  pub record IsFirstBad (nodes : List (Node G)) (place : ℕ) (c : BadCause G) : Type 0 where
    pub before : List (Node G)
    pub node : Node G
    pub after : List (Node G)
    pub split : nodes ≡ before ++ node ∷ after
    pub counts : length before ≡ place
    pub sound : AllByRecursion (StepHolds step justs) before
    pub bad : IsBad node c

  -- this node is the tree's first bad one, counted from 1 in preorder, and this is wrong with it
  abbrev pub IsFirstFault : Tree G → ℕ → BadCause G → Type 0
  IsFirstFault t node c = (place : ℕ) × IsFirstBad (preorder_of t) place c × (node ≡ counted (place + 1))

  -- the verdict on a tree: whether it is valid for the goal, with how many open leaves; else where and why it isn't. That the tree is for
  -- another goal comes first, and is said of node 1
  abbrev pub IsVerdict : Tree G → G → Verdict G → Type 0
  IsVerdict t goal verdict.Closed = IsValid step justs t goal × (leaf_count_of t ≡ 0)
  IsVerdict t goal (verdict.OpenLeaves open_leaves) = IsValid step justs t goal × (leaf_count_of t ≢ 0) × (open_leaves ≡ counted (leaf_count_of t))
  IsVerdict t goal (verdict.Bad node cause.Goal) = (root_of t ≢ goal) × (node ≡ 1)
  IsVerdict t goal (verdict.Bad node (cause.Refused why)) = (root_of t ≡ goal) × IsFirstFault t node (cause.Refused why)
  IsVerdict t goal (verdict.Bad node (cause.Kids found due)) = (root_of t ≡ goal) × IsFirstFault t node (cause.Kids found due)
