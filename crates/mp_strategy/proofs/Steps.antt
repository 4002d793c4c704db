-- One level of a tree: its depth, and a fact of each layer.
use Rattle.std.proofs.Common.{◌≡◌, ℕ, ◌+◌, List, [], ◌∷◌, map, ap, sym, subst, ◌∙◌}
use Rattle.std.specs.List.{AllByRecursion}
use Rattle.mp_logic.specs.declared.tree.Tree.{Tree, Leaf, Step}
use Rattle.mp_logic.specs.declared.tree.Tree.TheFolds.{fold-roll-Tree, every-Tree, every_here-Tree, every_held-Tree, map-Tree}
use Rattle.mp_logic.specs.declared.tree.Tree.TheOpen.{Tree-F}
use Rattle.mp_logic.specs.declared.tree.Tree.TheVariants.{rolls-Leaf, rolls-Step, outs-Leaf, outs-Step}
use Rattle.mp_logic.specs.declared.tree.JustId.{JustId}
use Rattle.mp_logic.specs.Trees.{root_of, goal_at, Grafting, graft_from, graft_step}
use Rattle.mp_logic.specs.Lists.{greatest}
use Rattle.mp_logic.specs.Valid.{EachGoal}
use Rattle.mp_strategy.specs.Laws.{tree_depth_of, tree_depth_step}

pub depth-Leaf : {G : Type 0} (g : G) → tree_depth_of (Leaf g) ≡ 0
depth-Leaf {G} g = let P : Tree G → ℕ = λ t. tree_depth_of t in ap P (sym (rolls-Leaf g)) ∙ fold-roll-Tree G ℕ tree_depth_step (Tree-F.Leaf g)

pub depth-Step : {G : Type 0} (g : G) (just : JustId) (kids : List (Tree G)) → tree_depth_of (Step g just kids) ≡ 1 + greatest (map tree_depth_of kids)
depth-Step {G} g just kids = let P : Tree G → ℕ = λ t. tree_depth_of t in ap P (sym (rolls-Step g just kids)) ∙ fold-roll-Tree G ℕ tree_depth_step (Tree-F.Step g just kids)

pub root-Leaf : {G : Type 0} (g : G) → root_of (Leaf g) ≡ g
root-Leaf g = ap goal_at (outs-Leaf g)

pub root-Step : {G : Type 0} (g : G) (just : JustId) (kids : List (Tree G)) → root_of (Step g just kids) ≡ g
root-Step g just kids = ap goal_at (outs-Step g just kids)

pub graft-Leaf : {G : Type 0} (g : G) (ts : List (Tree G)) → graft_from (Leaf g) ts ≡ graft_step (Tree-F.Leaf g) ts
graft-Leaf {G} g ts =
    let R : Tree G → Tree G × List (Tree G) = λ t. graft_from t ts in
    ap R (sym (rolls-Leaf g)) ∙ ap (λ h. h ts) (fold-roll-Tree G (Grafting G) graft_step (Tree-F.Leaf g))

module _ {G : Type 0} (Q : Tree-F G (Tree G) → Type 0) where
  abbrev Held : Type 0
  Held = (x : Tree G) × every-Tree G Q x

  each_held : (ys : List Held) → AllByRecursion (every-Tree G Q) (map (λ (e : Held). e.0) ys)
  each_held [] = tt
  each_held (y ∷ ys) = (y.1, each_held ys)

  abbrev kids_at : {T : Type 0} → Tree-F G T → List T
  kids_at (Tree-F.Leaf g) = []
  kids_at (Tree-F.Step g just kids) = kids

  held_kids : (kids : List (Tree G)) (y : Tree-F G Held) → kids_at (map-Tree G Held (Tree G) (λ e. e.0) y) ≡ kids → AllByRecursion (every-Tree G Q) kids
  held_kids kids (Tree-F.Leaf g) e = subst (AllByRecursion (every-Tree G Q)) e tt
  held_kids kids (Tree-F.Step g just ys) e = subst (AllByRecursion (every-Tree G Q)) e (each_held ys)

  pub every_here : (g : G) (just : JustId) (kids : List (Tree G)) → every-Tree G Q (Step g just kids) → Q (Tree-F.Step g just kids)
  every_here g just kids h = subst Q (outs-Step g just kids) (every_here-Tree G Q (Step g just kids) h)

  pub every_kid : (g : G) (just : JustId) (kids : List (Tree G)) → every-Tree G Q (Step g just kids) → AllByRecursion (every-Tree G Q) kids
  every_kid g just kids h =
      let held = every_held-Tree G Q (Step g just kids) h in
      held_kids kids held.0 (ap kids_at (held.1 ∙ outs-Step g just kids))

pub leaf_here : {G : Type 0} (P : G → Type 0) (g : G) → EachGoal P (Leaf g) → P g
leaf_here {G} P g h = subst (λ layer. P (goal_at layer)) (outs-Leaf g) (every_here-Tree G (λ layer. P (goal_at layer)) (Leaf g) h)
