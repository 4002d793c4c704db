-- Trees whose steps are by allowed justifications can be replayed.
use Rattle.std.proofs.Common.{◌≡◌, ℕ, zero, suc, ◌<◌, Bool, true, List, [], ◌∷◌, length, Some, IsTrue, refl, arith}
use Rattle.std.proofs.lemmas.Bool.{and_parts}
use Rattle.std.specs.List.{AllByRecursion, list_all}
use Rattle.std.specs.Prelude.{slice_get}
use Rattle.mp_logic.specs.declared.tree.Tree.{Tree}
use Rattle.mp_logic.specs.declared.tree.Tree.TheFolds.{every-Tree}
use Rattle.mp_logic.specs.declared.tree.Tree.TheOpen as layer
use Rattle.mp_logic.specs.declared.tree.JustId.{JustId}
use Rattle.mp_logic.specs.Meaning.{Meaning}
use Rattle.mp_logic.specs.Valid.{EachGoal}
use Rattle.mp_replay.specs.Conditions.{CanReplay, IsByAllowed}
use Rattle.mp_replay.specs.Nodes.{Node, preorder_of}
use Rattle.mp_replay.proofs.NodeLists.{each_node, of_each_node}

-- what a list has at a place within it is allowed, where each item is
allowed_in : {J : Type 0} (allowed : J → Bool) (js : List J) (i : ℕ) → list_all allowed js ≡ true → i < length js → (j : J) × (slice_get js i ≡ Some j) × IsTrue (allowed j)
allowed_in allowed [] i all lt = absurd (omega arith)
allowed_in allowed (j ∷ js) zero all lt = (j, refl, (and_parts (allowed j) (list_all allowed js) all).0)
allowed_in allowed (j ∷ js) (suc i) all lt = allowed_in allowed js i (and_parts (allowed j) (list_all allowed js) all).1 (omega arith)

module _ {G J : Type 0} (m : Meaning G J) (justs : List J) (all : list_all m.allowed justs ≡ true) (P : Node G → Type 0) (within : (g : G) (just : JustId) (kids : List (Tree G)) → P (layer.Step g just kids) → just.0 < length justs) where
  -- a node that names a justification of the list is by an allowed one
  node_allowed : (node : Node G) → P node → IsByAllowed m justs node
  node_allowed (layer.Leaf g) p = tt
  node_allowed (layer.Step g just kids) p = allowed_in m.allowed justs just.0 all (within g just kids p)

  -- and so is each of several
  each_allowed : (nodes : List (Node G)) → AllByRecursion P nodes → AllByRecursion (IsByAllowed m justs) nodes
  each_allowed [] h = tt
  each_allowed (node ∷ nodes) h = (node_allowed node h.0, each_allowed nodes h.1)

  -- a tree of good goals can be replayed, where each justification of the list is allowed and each step names one of the list
  pub can_replay : (t : Tree G) → EachGoal (λ g. IsTrue (m.good g)) t → every-Tree G P t → CanReplay m justs t
  can_replay t goals steps = record { goals = goals; steps = of_each_node (IsByAllowed m justs) t (each_allowed (preorder_of t) (each_node P t steps)) }
