-- What a printed tree proves: each of its steps is a step of the theory.
use Rattle.std.specs.Prelude.{◌≡◌, List, map, Some, Ok, slice_get, IsTrue, ⊤}
use Rattle.std.specs.List.{list_all}
use Rattle.mp_logic.specs.declared.tree.Tree.{Tree}
use Rattle.mp_logic.specs.declared.tree.Tree.TheOpen.{Tree-F}
use Rattle.mp_logic.specs.declared.tree.Tree.TheOpen as layer
use Rattle.mp_logic.specs.declared.tree.Tree.TheFolds.{every-Tree}
use Rattle.mp_logic.specs.Trees.{root_of, leaf_count_of}
use Rattle.mp_term.specs.declared.sequent.Sequent.{Sequent}
use Rattle.mp_theory.specs.Tables.{Laws}
use Rattle.mp_theory.specs.declared.just.Just.{Just}
use Rattle.mp_theory.specs.Allowed.{is_good, is_allowed}
use Rattle.mp_refiner.specs.Law.{IsStep}

-- a layer of a tree is a step of the theory: a leaf is open; a step's justification is in the list and allowed, and by the law that it
-- names, asked as it says, its goal has the kids' goals as subgoals, each of them within the limits
abbrev pub StepIs : Laws → List Just → Tree-F Sequent (Tree Sequent) → Type 0
StepIs theory justs (layer.Leaf g) = ⊤
StepIs theory justs (layer.Step g just kids) = (by : Just) × (slice_get justs just.0 ≡ Some by) × IsTrue (is_allowed theory by) × IsStep theory by g (Ok (map root_of kids))

-- the tree is for the goal, and each of its steps is a step of the theory
abbrev pub Proves : Laws → List Just → Tree Sequent → Sequent → Type 0
Proves theory justs t g = (root_of t ≡ g) × every-Tree Sequent (StepIs theory justs) t

-- the goal is derivable in the theory: it is good, and some tree by allowed justifications proves it and has no open leaf
abbrev pub IsDerivable : Laws → Sequent → Type 0
IsDerivable theory g =
    IsTrue (is_good g)
    × (justs : List Just)
    × IsTrue (list_all (is_allowed theory) justs)
    × (t : Tree Sequent)
    × Proves theory justs t g
    × (leaf_count_of t ≡ 0)
