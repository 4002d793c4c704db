-- A fact of each layer of a tree: at its root, and in its kids.
use Rattle.std.proofs.Common.{◌≡◌, List, [], ◌∷◌, map, IsTrue, ap, subst, ◌∙◌}
use Rattle.std.specs.List.{AllByRecursion}
use Rattle.mp_logic.specs.declared.tree.Tree.{Tree, Leaf, Step}
use Rattle.mp_logic.specs.declared.tree.Tree.TheFolds.{every-Tree, every_here-Tree, every_held-Tree, map-Tree}
use Rattle.mp_logic.specs.declared.tree.Tree.TheOpen.{Tree-F}
use Rattle.mp_logic.specs.declared.tree.Tree.TheVariants.{outs-Leaf, outs-Step}
use Rattle.mp_logic.specs.declared.tree.JustId.{JustId}
use Rattle.mp_logic.specs.Meaning.{Meaning}
use Rattle.mp_logic.specs.Trees.{goal_at}
use Rattle.mp_replay.specs.Conditions.{CanReplay, IsByAllowed}

module _ {G : Type 0} (Q : Tree-F G (Tree G) → Type 0) where
  -- a tree with the fact of each of its layers
  abbrev Held : Type 0
  Held = (x : Tree G) × every-Tree G Q x

  -- the fact holds of each layer of trees that come with it
  each_held : (ys : List Held) → AllByRecursion (every-Tree G Q) (map (λ (e : Held). e.0) ys)
  each_held [] = tt
  each_held (y ∷ ys) = (y.1, each_held ys)

  -- the kids of a layer
  abbrev kids_at : {T : Type 0} → Tree-F G T → List T
  kids_at (Tree-F.Leaf g) = []
  kids_at (Tree-F.Step g just kids) = kids

  -- and of the kids of a layer of such trees
  held_kids : (kids : List (Tree G)) (y : Tree-F G Held) → kids_at (map-Tree G Held (Tree G) (λ e. e.0) y) ≡ kids → AllByRecursion (every-Tree G Q) kids
  held_kids kids (Tree-F.Leaf g) e = subst (AllByRecursion (every-Tree G Q)) e tt
  held_kids kids (Tree-F.Step g just ys) e = subst (AllByRecursion (every-Tree G Q)) e (each_held ys)

  -- the fact holds of a leaf's layer
  pub leaf_holds : (g : G) → every-Tree G Q (Leaf g) → Q (Tree-F.Leaf g)
  leaf_holds g h = subst Q (outs-Leaf g) (every_here-Tree G Q (Leaf g) h)

  -- the fact holds of a step's layer
  pub step_holds : (g : G) (just : JustId) (kids : List (Tree G)) → every-Tree G Q (Step g just kids) → Q (Tree-F.Step g just kids)
  step_holds g just kids h = subst Q (outs-Step g just kids) (every_here-Tree G Q (Step g just kids) h)

  -- the fact holds of each layer of the kids
  pub kids_hold : (g : G) (just : JustId) (kids : List (Tree G)) → every-Tree G Q (Step g just kids) → AllByRecursion (every-Tree G Q) kids
  kids_hold g just kids h =
      let held = every_held-Tree G Q (Step g just kids) h in
      held_kids kids held.0 (ap kids_at (held.1 ∙ outs-Step g just kids))

module _ {G J : Type 0} (m : Meaning G J) (justs : List J) where
  -- kids whose goals are good, and whose justifications are allowed, can be replayed
  both : (kids : List (Tree G)) → AllByRecursion (every-Tree G (λ layer. IsTrue (m.good (goal_at layer)))) kids → AllByRecursion (every-Tree G (IsByAllowed m justs)) kids → AllByRecursion (CanReplay m justs) kids
  both [] h k = tt
  both (x ∷ xs) h k = (record { goals = h.0; steps = k.0 }, both xs h.1 k.1)

  module _ (g : G) (just : JustId) (kids : List (Tree G)) (t : Tree G) (is : t ≡ Step g just kids) (can : CanReplay m justs t) where
    -- the goal of a step of a tree that can be replayed is good
    pub goal_good : IsTrue (m.good g)
    goal_good = step_holds (λ layer. IsTrue (m.good (goal_at layer))) g just kids (subst (every-Tree G (λ layer. IsTrue (m.good (goal_at layer)))) is can.goals)

    -- and its justification is in the list, and allowed
    pub just_allowed : IsByAllowed m justs (Tree-F.Step g just kids)
    just_allowed = step_holds (IsByAllowed m justs) g just kids (subst (every-Tree G (IsByAllowed m justs)) is can.steps)

    -- and its kids can be replayed
    pub kids_can : AllByRecursion (CanReplay m justs) kids
    kids_can =
        both kids (kids_hold (λ layer. IsTrue (m.good (goal_at layer))) g just kids (subst (every-Tree G (λ layer. IsTrue (m.good (goal_at layer)))) is can.goals))
        (kids_hold (IsByAllowed m justs) g just kids (subst (every-Tree G (IsByAllowed m justs)) is can.steps))
