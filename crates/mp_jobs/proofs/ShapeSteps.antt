-- The shape of each form of a node.
use Rattle.std.proofs.Common.{◌≡◌, ℕ, Bool, IsTrue, List, [], ◌∷◌, map, length, refl, ap, sym, subst, ◌∙◌, arith}
use Rattle.std.proofs.lemmas.Grind.{common_steps}
use Rattle.std.specs.Prelude.{slice_get, nat_lt}
use Rattle.std.specs.List.{AllByRecursion}
use Rattle.mp_logic.specs.declared.tree.Tree.{Tree}
use Rattle.mp_logic.specs.Meaning.{Meaning}
use Rattle.mp_strategy.specs.declared.problem.ProblemState.{ProblemState}
use Rattle.mp_strategy.specs.declared.work.Work.{Work}
use Rattle.mp_strategy.specs.declared.outcome.Outcome.{Outcome}
use Rattle.mp_strategy.specs.Laws.{IsGood}
use Rattle.mp_strategy.specs.Works.{IsWork}
use Rattle.mp_jobs.specs.declared.node.Node.{Node, Node-F, Todo, Claimed, Done, Then, Leaves, Else, Race, Check, roll-Node}
use Rattle.mp_jobs.specs.declared.node.Node.TheVariants.{rolls-Todo, rolls-Claimed, rolls-Done, rolls-Then, rolls-Leaves, rolls-Else, rolls-Race, rolls-Check}
use Rattle.mp_jobs.specs.declared.node.Node.TheFolds.{rec-Node, rec-roll-Node, map-Node}
use Rattle.mp_jobs.specs.declared.node.Node.TheOpen as layer
use Rattle.mp_jobs.specs.Ends.{done_of}
use Rattle.mp_jobs.specs.Shapes.{makes_then, makes_check, KidsFit, IsGoodTree, shape_step, Shape}

module _ {X G : Type 0} (v : X → Node G) (k : Node G → Type 0) where
  all_map : (ks : List X) → AllByRecursion (λ p. k (v p)) ks ≡ AllByRecursion k (map v ks)
  all_map [] = refl
  all_map (x ∷ ks) = λ i. k (v x) × all_map ks i

  results_map : (ks : List X) → map (λ p. done_of (v p)) ks ≡ map (λ n. done_of n) (map v ks)
  results_map [] = refl
  results_map (x ∷ ks) = ap (λ rs. done_of (v x) ∷ rs) (results_map ks)

  length_map : (ks : List X) → length ks ≡ length (map v ks)
  length_map [] = refl
  length_map (x ∷ ks) = let e = length_map ks in grind (arith, common_steps)

pub into : (A B : Type 0) → A ≡ B → A → B
into A B e a = subst (λ (X : Type 0). X) e a

pub back : (A B : Type 0) → A ≡ B → B → A
back A B e b = subst (λ (X : Type 0). X) (sym e) b

module _ {L G J : Type 0} (meaning : L → Meaning G J) (p : ProblemState L J) where
  abbrev S : Node G → Type 0
  S = Shape meaning p

  abbrev at_layer : (X : Type 0) → (X → Node G) → (X → Type 0) → Node-F G X → Type 0
  at_layer = shape_step meaning p

  natural : (X : Type 0) (v : X → Node G) (k : Node G → Type 0) (x : Node-F G X) → at_layer X v (λ p. k (v p)) x ≡ at_layer (Node G) (λ y. y) k (map-Node G X (Node G) v x)
  natural X v k (layer.Todo w) = refl
  natural X v k (layer.Claimed e who w) = refl
  natural X v k (layer.Done o) = refl
  natural X v k (layer.Then w f) = refl
  natural X v k (layer.Leaves t ks c) = λ i. IsGoodTree meaning p t × all_map v k ks i × KidsFit t (results_map v k ks i) c
  natural X v k (layer.Else a b) = refl
  natural X v k (layer.Race ks) = λ i. IsTrue (nat_lt 0 (length_map v k ks i)) × all_map v k ks i
  natural X v k (layer.Check w f) = refl

  at : (l : Node-F G (Node G)) → rec-Node G (Type 0) at_layer (roll-Node G l) ≡ at_layer (Node G) (λ y. y) S l
  at l = rec-roll-Node G (Type 0) at_layer natural l

  pub shape-Todo : (w : Work G) → S (Todo w) ≡ IsWork meaning p w
  shape-Todo w = ap S (sym (rolls-Todo w)) ∙ at (layer.Todo w)

  pub shape-Claimed : (e who : ℕ) (w : Work G) → S (Claimed e who w) ≡ IsWork meaning p w
  shape-Claimed e who w = ap S (sym (rolls-Claimed e who w)) ∙ at (layer.Claimed e who w)

  pub shape-Done : (o : Outcome G) → S (Done o) ≡ IsGood (meaning p.logic) o
  shape-Done o = ap S (sym (rolls-Done o)) ∙ at (layer.Done o)

  pub shape-Then : (w : Work G) (f : Node G) → S (Then w f) ≡ (IsWork meaning p w × IsTrue (makes_then (slice_get p.tacs w.tac.0) w.left) × S f)
  shape-Then w f = ap S (sym (rolls-Then w f)) ∙ at (layer.Then w f)

  pub shape-Check : (w : Work G) (f : Node G) → S (Check w f) ≡ (IsWork meaning p w × IsTrue (makes_check (slice_get p.tacs w.tac.0)) × S f)
  shape-Check w f = ap S (sym (rolls-Check w f)) ∙ at (layer.Check w f)

  pub shape-Leaves : (t : Tree G) (ks : List (Node G)) (c : Bool) → S (Leaves t ks c) ≡ (IsGoodTree meaning p t × AllByRecursion S ks × KidsFit t (map (λ k. done_of k) ks) c)
  shape-Leaves t ks c = ap S (sym (rolls-Leaves t ks c)) ∙ at (layer.Leaves t ks c)

  pub shape-Else : (a b : Node G) → S (Else a b) ≡ (S a × S b)
  shape-Else a b = ap S (sym (rolls-Else a b)) ∙ at (layer.Else a b)

  pub shape-Race : (ks : List (Node G)) → S (Race ks) ≡ (IsTrue (nat_lt 0 (length ks)) × AllByRecursion S ks)
  shape-Race ks = ap S (sym (rolls-Race ks)) ∙ at (layer.Race ks)
