-- Induction over the nodes of a job tree, with a fact for each part.
use Rattle.std.proofs.Common.{ℕ, Bool, List, [], ◌∷◌, map, sym, subst}
use Rattle.std.specs.List.{AllByRecursion}
use Rattle.mp_logic.specs.declared.tree.Tree.{Tree}
use Rattle.mp_strategy.specs.declared.work.Work.{Work}
use Rattle.mp_strategy.specs.declared.outcome.Outcome.{Outcome}
use Rattle.mp_jobs.specs.declared.node.Node.{Node, Node-F, Todo, Claimed, Done, Then, Leaves, Else, Race, Check, roll-Node}
use Rattle.mp_jobs.specs.declared.node.Node.TheVariants.{rolls-Todo, rolls-Claimed, rolls-Done, rolls-Then, rolls-Leaves, rolls-Else, rolls-Race, rolls-Check}
use Rattle.mp_jobs.specs.declared.node.Node.TheFolds.{ind-Node, map-Node}
use Rattle.mp_jobs.specs.declared.node.Node.TheOpen as layer

module _ {G : Type 0} where
  pub record Cases (P : Node G → Type 0) : Type 0 where
    pub todo : (w : Work G) → P (Todo w)
    pub claimed : (e who : ℕ) (w : Work G) → P (Claimed e who w)
    pub done : (o : Outcome G) → P (Done o)
    pub then : (w : Work G) (f : Node G) → P f → P (Then w f)
    pub leaves : (t : Tree G) (ks : List (Node G)) (c : Bool) → AllByRecursion P ks → P (Leaves t ks c)
    pub or : (a b : Node G) → P a → P b → P (Else a b)
    pub check : (w : Work G) (f : Node G) → P f → P (Check w f)
    pub race : (ks : List (Node G)) → AllByRecursion P ks → P (Race ks)

  abbrev Proved : (Node G → Type 0) → Type 0
  Proved P = (n : Node G) × P n

  each_proved : (P : Node G → Type 0) (ys : List (Proved P)) → AllByRecursion P (map (λ y. y.0) ys)
  each_proved P [] = tt
  each_proved P (y ∷ ys) = (y.1, each_proved P ys)

  at_layer : (P : Node G → Type 0) → Cases P → (y : Node-F G (Proved P)) → P (roll-Node G (map-Node G (Proved P) (Node G) (λ e. e.0) y))
  at_layer P c (layer.Todo w) = subst P (sym (rolls-Todo w)) (c.todo w)
  at_layer P c (layer.Claimed e who w) = subst P (sym (rolls-Claimed e who w)) (c.claimed e who w)
  at_layer P c (layer.Done o) = subst P (sym (rolls-Done o)) (c.done o)
  at_layer P c (layer.Then w f) = subst P (sym (rolls-Then w f.0)) (c.then w f.0 f.1)
  at_layer P c (layer.Check w f) = subst P (sym (rolls-Check w f.0)) (c.check w f.0 f.1)
  at_layer P c (layer.Leaves t ks cut) = subst P (sym (rolls-Leaves t (map (λ y. y.0) ks) cut)) (c.leaves t (map (λ y. y.0) ks) cut (each_proved P ks))
  at_layer P c (layer.Else a b) = subst P (sym (rolls-Else a.0 b.0)) (c.or a.0 b.0 a.1 b.1)
  at_layer P c (layer.Race ks) = subst P (sym (rolls-Race (map (λ y. y.0) ks))) (c.race (map (λ y. y.0) ks) (each_proved P ks))

  pub node_ind : (P : Node G → Type 0) → Cases P → (n : Node G) → P n
  node_ind P c n = ind-Node G P (λ x y e. subst (λ (x : Node-F G (Node G)). P (roll-Node G x)) e (at_layer P c y)) n
