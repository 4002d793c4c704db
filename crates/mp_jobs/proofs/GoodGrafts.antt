-- Each goal of a grafted tree is good where those of the trees are, and so are the goals of its open leaves.
use Rattle.std.proofs.Common.{List, [], ◌∷◌, sym, subst}
use Rattle.std.specs.List.{AllByRecursion}
use Rattle.mp_logic.specs.declared.tree.Tree.{Tree, Leaf, Step}
use Rattle.mp_logic.specs.declared.tree.Tree.TheOpen.{Tree-F}
use Rattle.mp_logic.specs.declared.tree.Tree.TheOpen as layer
use Rattle.mp_logic.specs.declared.tree.JustId.{JustId}
use Rattle.mp_logic.specs.Trees.{goal_at, graft_from, graft_step, graft_of, EachLeaf}
use Rattle.mp_logic.specs.Valid.{EachGoal}
use Rattle.mp_logic.proofs.Every.{every_leaf, every_step}
use Rattle.mp_logic.proofs.GoodTrees.{each_leaf_leaf, each_leaf_step}
use Rattle.mp_logic.proofs.TreeInduction.{tree_ind}
use Rattle.mp_logic.proofs.TreeSteps.{graft-Step, graft_all}
use Rattle.mp_strategy.proofs.Steps.{graft-Leaf, every_here, every_kid, leaf_here}

module _ {G : Type 0} (P : G → Type 0) where
  abbrev Q : Tree-F G (Tree G) → Type 0
  Q l = P (goal_at l)

  abbrev Each : List (Tree G) → Type 0
  Each ts = AllByRecursion (EachGoal P) ts

  -- what grafting makes of a tree, and the trees that it leaves
  abbrev Both : Tree G × List (Tree G) → Type 0
  Both r = EachGoal P r.0 × Each r.1

  abbrev Keeps : Tree G → Type 0
  Keeps t = (ts : List (Tree G)) → Each ts → EachGoal P t → Both (graft_from t ts)

  keeps_leaf : (g : G) → Keeps (Leaf g)
  keeps_leaf g ts a h = subst Both (sym (graft-Leaf g ts)) (at ts a) where
    at : (ts : List (Tree G)) → Each ts → Both (graft_step (layer.Leaf g) ts)
    at [] a = (h, tt)
    at (t ∷ ts) a = a

  keeps_each : (kids : List (Tree G)) → AllByRecursion Keeps kids → (ts : List (Tree G)) → Each ts → Each kids → Each (graft_all kids ts).0 × Each (graft_all kids ts).1
  keeps_each [] k ts a h = (tt, a)
  keeps_each (x ∷ xs) k ts a h =
      let first = k.0 ts a h.0 in
      let others = keeps_each xs k.1 (graft_from x ts).1 first.1 h.1 in
      ((first.0, others.0), others.1)

  keeps_step : (g : G) (just : JustId) (kids : List (Tree G)) → AllByRecursion Keeps kids → Keeps (Step g just kids)
  keeps_step g just kids k ts a h =
      let kept = keeps_each kids k ts a (every_kid Q g just kids h) in
      subst Both (sym (graft-Step g just kids ts)) (every_step Q g just (graft_all kids ts).0 kept.0 (every_here Q g just kids h), kept.1)

  pub each_goal_graft : (t : Tree G) (ts : List (Tree G)) → Each ts → EachGoal P t → EachGoal P (graft_of t ts)
  each_goal_graft t ts a h = (tree_ind Keeps keeps_leaf keeps_step t ts a h).0

  abbrev Opens : Tree G → Type 0
  Opens t = EachGoal P t → EachLeaf P t

  opens_each : (kids : List (Tree G)) → AllByRecursion Opens kids → Each kids → AllByRecursion (EachLeaf P) kids
  opens_each [] k h = tt
  opens_each (x ∷ xs) k h = (k.0 h.0, opens_each xs k.1 h.1)

  -- what holds of each goal holds of the open ones
  pub each_goal_leaf : (t : Tree G) → EachGoal P t → EachLeaf P t
  each_goal_leaf = tree_ind Opens (λ g h. each_leaf_leaf P g (leaf_here P g h)) (λ g just kids k h. each_leaf_step P g just kids (opens_each kids k (every_kid Q g just kids h)))

  pub one_goal : (g : G) → P g → EachGoal P (Leaf g)
  one_goal g h = every_leaf Q g h
