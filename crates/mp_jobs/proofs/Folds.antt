-- One level of a fold over a node.
use Rattle.std.proofs.Common.{◌≡◌, ℕ, Bool, List, map, ap, sym, ◌∙◌}
use Rattle.mp_logic.specs.declared.tree.Tree.{Tree}
use Rattle.mp_strategy.specs.declared.work.Work.{Work}
use Rattle.mp_strategy.specs.declared.outcome.Outcome.{Outcome}
use Rattle.mp_jobs.specs.declared.node.Node.{Node, Node-F, Todo, Claimed, Done, Then, Leaves, Else, Race, Check, fold-Node}
use Rattle.mp_jobs.specs.declared.node.Node.TheVariants.{rolls-Todo, rolls-Claimed, rolls-Done, rolls-Then, rolls-Leaves, rolls-Else, rolls-Race, rolls-Check}
use Rattle.mp_jobs.specs.declared.node.Node.TheFolds.{fold-roll-Node}
use Rattle.mp_jobs.specs.declared.node.Node.TheOpen as layer

module _ {G A : Type 0} (at : Node-F G A → A) where
  abbrev F : Node G → A
  F = fold-Node G A at

  pub fold-Todo : (w : Work G) → F (Todo w) ≡ at (layer.Todo w)
  fold-Todo w = ap F (sym (rolls-Todo w)) ∙ fold-roll-Node G A at (layer.Todo w)

  pub fold-Claimed : (e who : ℕ) (w : Work G) → F (Claimed e who w) ≡ at (layer.Claimed e who w)
  fold-Claimed e who w = ap F (sym (rolls-Claimed e who w)) ∙ fold-roll-Node G A at (layer.Claimed e who w)

  pub fold-Done : (o : Outcome G) → F (Done o) ≡ at (layer.Done o)
  fold-Done o = ap F (sym (rolls-Done o)) ∙ fold-roll-Node G A at (layer.Done o)

  pub fold-Then : (w : Work G) (f : Node G) → F (Then w f) ≡ at (layer.Then w (F f))
  fold-Then w f = ap F (sym (rolls-Then w f)) ∙ fold-roll-Node G A at (layer.Then w f)

  pub fold-Leaves : (t : Tree G) (ks : List (Node G)) (c : Bool) → F (Leaves t ks c) ≡ at (layer.Leaves t (map F ks) c)
  fold-Leaves t ks c = ap F (sym (rolls-Leaves t ks c)) ∙ fold-roll-Node G A at (layer.Leaves t ks c)

  pub fold-Else : (a b : Node G) → F (Else a b) ≡ at (layer.Else (F a) (F b))
  fold-Else a b = ap F (sym (rolls-Else a b)) ∙ fold-roll-Node G A at (layer.Else a b)

  pub fold-Race : (ks : List (Node G)) → F (Race ks) ≡ at (layer.Race (map F ks))
  fold-Race ks = ap F (sym (rolls-Race ks)) ∙ fold-roll-Node G A at (layer.Race ks)

  pub fold-Check : (w : Work G) (f : Node G) → F (Check w f) ≡ at (layer.Check w (F f))
  fold-Check w f = ap F (sym (rolls-Check w f)) ∙ fold-roll-Node G A at (layer.Check w f)
