-- The nodes of a leaf and of a step, and what holds of each of them.
use Rattle.std.proofs.Common.{◌≡◌, List, [], ◌∷◌, ◌++◌, map, refl, ap, ◌∙◌, sym, subst}
use Rattle.std.specs.List.{flat_map, AllByRecursion}
use Rattle.mp_logic.specs.declared.tree.Tree.{Tree, Leaf, Step, fold-roll-Tree}
use Rattle.mp_logic.specs.declared.tree.Tree.TheFolds.{fold-Tree, every-Tree}
use Rattle.mp_logic.specs.declared.tree.Tree.TheOpen.{Tree-F}
use Rattle.mp_logic.specs.declared.tree.Tree.TheVariants.{rolls-Leaf, rolls-Step}
use Rattle.mp_logic.specs.declared.tree.JustId.{JustId}
use Rattle.mp_logic.proofs.Every.{every_leaf, every_step}
use Rattle.mp_logic.proofs.TreeInduction.{tree_ind}
use Rattle.mp_replay.specs.Nodes.{Node, WithNodes, nodes_step, preorder_of}
use Rattle.mp_replay.proofs.Layers.{leaf_holds, step_holds, kids_hold}

-- a tree, with its nodes
abbrev with_nodes : {G : Type 0} → Tree G → WithNodes G
with_nodes {G} = fold-Tree G (WithNodes G) nodes_step

-- a leaf with its nodes
with_nodes-Leaf : {G : Type 0} (g : G) → with_nodes (Leaf g) ≡ nodes_step (Tree-F.Leaf g)
with_nodes-Leaf {G} g = let P : Tree G → WithNodes G = with_nodes in ap P (sym (rolls-Leaf g)) ∙ fold-roll-Tree G (WithNodes G) nodes_step (Tree-F.Leaf g)

-- a step with its nodes
with_nodes-Step : {G : Type 0} (g : G) (just : JustId) (kids : List (Tree G)) → with_nodes (Step g just kids) ≡ nodes_step (Tree-F.Step g just (map with_nodes kids))
with_nodes-Step {G} g just kids =
    let P : Tree G → WithNodes G = with_nodes in
    ap P (sym (rolls-Step g just kids)) ∙ fold-roll-Tree G (WithNodes G) nodes_step (Tree-F.Step g just kids)

-- the first part is the tree itself
abbrev IsItself : {G : Type 0} → Tree G → Type 0
IsItself t = (with_nodes t).0 ≡ t

-- the kids themselves are the first parts
each_itself : {G : Type 0} (kids : List (Tree G)) → AllByRecursion IsItself kids → map (λ kid. kid.0) (map with_nodes kids) ≡ kids
each_itself [] h = refl
each_itself (k ∷ ks) h = ap (λ t. t ∷ map (λ kid. kid.0) (map with_nodes ks)) h.0 ∙ ap (λ ts. k ∷ ts) (each_itself ks h.1)

-- each tree is the first part of itself with its nodes
itself : {G : Type 0} (t : Tree G) → IsItself t
itself {G} =
    tree_ind IsItself (λ g. ap (λ p. p.0) (with_nodes-Leaf g))
    (λ g just kids h. ap (λ p. p.0) (with_nodes-Step g just kids) ∙ ap (Step g just) (each_itself kids h))

-- and so is each kid
all_itself : {G : Type 0} (kids : List (Tree G)) → AllByRecursion IsItself kids
all_itself [] = tt
all_itself (k ∷ ks) = (itself k, all_itself ks)

-- the nodes of the kids are the second parts
each_nodes : {G : Type 0} (kids : List (Tree G)) → flat_map (λ kid. kid.1) (map with_nodes kids) ≡ flat_map preorder_of kids
each_nodes [] = refl
each_nodes (k ∷ ks) = ap (λ ns. preorder_of k ++ ns) (each_nodes ks)

-- a leaf is one node
pub preorder_of-Leaf : {G : Type 0} (g : G) → preorder_of (Leaf g) ≡ Tree-F.Leaf g ∷ []
preorder_of-Leaf g = ap (λ p. p.1) (with_nodes-Leaf g)

-- a step's node comes first, and then those of each kid in order
pub preorder_of-Step : {G : Type 0} (g : G) (just : JustId) (kids : List (Tree G)) → preorder_of (Step g just kids) ≡ Tree-F.Step g just kids ∷ flat_map preorder_of kids
preorder_of-Step g just kids =
    ap (λ p. p.1) (with_nodes-Step g just kids)
    ∙ ap (λ ts. Tree-F.Step g just ts ∷ flat_map (λ kid. kid.1) (map with_nodes kids)) (each_itself kids (all_itself kids))
    ∙ ap (λ ns. Tree-F.Step g just kids ∷ ns) (each_nodes kids)

-- ## What holds of each node

-- what holds of the items of two lists holds of those of both, one after the other
pub all_append : {A : Type 0} (P : A → Type 0) (xs ys : List A) → AllByRecursion P xs → AllByRecursion P ys → AllByRecursion P (xs ++ ys)
all_append P [] ys h k = k
all_append P (x ∷ xs) ys h k = (h.0, all_append P xs ys h.1 k)

-- and the other way round
all_front : {A : Type 0} (P : A → Type 0) (xs ys : List A) → AllByRecursion P (xs ++ ys) → AllByRecursion P xs × AllByRecursion P ys
all_front P [] ys h = (tt, h)
all_front P (x ∷ xs) ys h = let r = all_front P xs ys h.1 in ((h.0, r.0), r.1)

module _ {G : Type 0} (Q : Node G → Type 0) where
  -- the fact holds of each node of a tree
  abbrev Each : Tree G → Type 0
  Each t = AllByRecursion Q (preorder_of t)

  -- what holds of each layer of kids holds of each of their nodes, if it does so for each kid
  each_kid : (kids : List (Tree G)) → AllByRecursion (λ kid. every-Tree G Q kid → Each kid) kids → AllByRecursion (every-Tree G Q) kids → AllByRecursion Q (flat_map preorder_of kids)
  each_kid [] h k = tt
  each_kid (x ∷ xs) h k = all_append Q (preorder_of x) (flat_map preorder_of xs) (h.0 k.0) (each_kid xs h.1 k.1)

  -- and the other way round
  of_each_kid : (kids : List (Tree G)) → AllByRecursion (λ kid. Each kid → every-Tree G Q kid) kids → AllByRecursion Q (flat_map preorder_of kids) → AllByRecursion (every-Tree G Q) kids
  of_each_kid [] h k = tt
  of_each_kid (x ∷ xs) h k = let r = all_front Q (preorder_of x) (flat_map preorder_of xs) k in (h.0 r.0, of_each_kid xs h.1 r.1)

  -- what holds of each layer of a tree holds of each of its nodes
  pub each_node : (t : Tree G) → every-Tree G Q t → AllByRecursion Q (preorder_of t)
  each_node =
      tree_ind (λ t. every-Tree G Q t → Each t) (λ g h. subst (AllByRecursion Q) (sym (preorder_of-Leaf g)) (leaf_holds Q g h, tt))
      (λ g just kids turns h. subst (AllByRecursion Q) (sym (preorder_of-Step g just kids)) (step_holds Q g just kids h, each_kid kids turns (kids_hold Q g just kids h)))

  -- what holds of the node of a leaf holds of its layer
  at_leaf : (g : G) → Each (Leaf g) → every-Tree G Q (Leaf g)
  at_leaf g h = let here : AllByRecursion Q (Tree-F.Leaf g ∷ []) = subst (AllByRecursion Q) (preorder_of-Leaf g) h in every_leaf Q g here.0

  -- what holds of each node of a step holds of each of its layers, if it does so for its kids
  at_step : (g : G) (just : JustId) (kids : List (Tree G)) → AllByRecursion (λ kid. Each kid → every-Tree G Q kid) kids → Each (Step g just kids) → every-Tree G Q (Step g just kids)
  at_step g just kids turns h =
      let here : AllByRecursion Q (Tree-F.Step g just kids ∷ flat_map preorder_of kids) = subst (AllByRecursion Q) (preorder_of-Step g just kids) h in
      every_step Q g just kids (of_each_kid kids turns here.1) here.0

  -- what holds of each node of a tree holds of each of its layers
  pub of_each_node : (t : Tree G) → AllByRecursion Q (preorder_of t) → every-Tree G Q t
  of_each_node = tree_ind (λ t. Each t → every-Tree G Q t) at_leaf at_step
