-- The nodes of a tree in preorder.
use Rattle.std.specs.Prelude.{List, [], ◌∷◌, map}
use Rattle.std.specs.List.{flat_map}
use Rattle.mp_logic.specs.declared.tree.Tree.{Tree, Leaf, Step}
use Rattle.mp_logic.specs.declared.tree.Tree.TheOpen.{Tree-F}
use Rattle.mp_logic.specs.declared.tree.Tree.TheOpen as layer
use Rattle.mp_logic.specs.declared.tree.Tree.TheFolds.{fold-Tree}

-- a node of a tree, with the kids below it
abbrev pub Node : Type 0 → Type 0
Node G = Tree-F G (Tree G)

-- a tree, with its nodes in preorder
abbrev pub WithNodes : Type 0 → Type 0
WithNodes G = Tree G × List (Node G)

-- a node's tree with its nodes, from those of its kids: the node comes first, and then those of each kid in order
abbrev pub nodes_step : {G : Type 0} → Tree-F G (WithNodes G) → WithNodes G
nodes_step (layer.Leaf g) = (Leaf g, layer.Leaf g ∷ [])
nodes_step (layer.Step g just kids) =
    let trees = map (λ kid. kid.0) kids in
    (Step g just trees, layer.Step g just trees ∷ flat_map (λ kid. kid.1) kids)

-- the leaves and steps of a tree in preorder
abbrev pub preorder_of : {G : Type 0} → Tree G → List (Node G)
preorder_of {G} t = (fold-Tree G (WithNodes G) nodes_step t).1
