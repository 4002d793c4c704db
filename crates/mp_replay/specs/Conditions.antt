-- Which trees can be replayed.
use Rattle.std.specs.Prelude.{◌≡◌, List, Some, slice_get, IsTrue, ⊤}
use Rattle.mp_logic.specs.declared.tree.Tree.{Tree}
use Rattle.mp_logic.specs.declared.tree.Tree.TheOpen as layer
use Rattle.mp_logic.specs.declared.tree.Tree.TheFolds.{every-Tree}
use Rattle.mp_logic.specs.Meaning.{Meaning}
use Rattle.mp_logic.specs.Valid.{EachGoal}
use Rattle.mp_replay.specs.Nodes.{Node}

module _ {G J : Type 0} (m : Meaning G J) (justs : List J) where
  -- a step's justification is in the list, and allowed
  abbrev pub IsByAllowed : Node G → Type 0
  IsByAllowed (layer.Leaf g) = ⊤
  IsByAllowed (layer.Step g just kids) = (j : J) × (slice_get justs just.0 ≡ Some j) × IsTrue (m.allowed j)

  -- each goal of a tree is good, and each of its justifications is in the list and allowed
  pub record CanReplay (t : Tree G) : Type 0 where
    pub goals : EachGoal (λ g. IsTrue (m.good g)) t
    pub steps : every-Tree G IsByAllowed t
