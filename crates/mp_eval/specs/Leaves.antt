-- The first open leaf of a tree.
use Rattle.std.specs.Prelude.{List, [], ◌∷◌, Some, None}
use Rattle.std.specs.declared.option.Option.{Option}
use Rattle.mp_logic.specs.Trees.{LeafAt}

-- the goal of the first leaf of a list
abbrev pub first_goal : {G : Type 0} → List (LeafAt G) → Option G
first_goal [] = None
first_goal (leaf ∷ leaves) = Some leaf.goal
