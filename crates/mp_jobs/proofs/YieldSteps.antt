-- What a node of each form yields, by what its parts yield.
use Rattle.std.proofs.Common.{◌≡◌, ℕ, ◌⊎◌, Bool, true, false, List, [], ◌∷◌, map, refl, ap, sym, subst, ◌∙◌}
use Rattle.std.specs.Prelude.{slice_get}
use Rattle.mp_logic.specs.declared.tree.Tree.{Tree}
use Rattle.mp_logic.specs.Trees.{graft_of}
use Rattle.mp_logic.specs.Meaning.{Meaning}
use Rattle.mp_strategy.specs.declared.problem.ProblemState.{ProblemState}
use Rattle.mp_strategy.specs.declared.work.Work.{Work}
use Rattle.mp_strategy.specs.declared.outcome.Failure.{Failure}
use Rattle.mp_strategy.specs.declared.outcome.Outcome.{Outcome}
use Rattle.mp_strategy.specs.declared.outcome.Outcome.TheVariants as outcome
use Rattle.mp_strategy.specs.Strategies.{Given, EachTree, SomeFails, SomeGives, AllFail, RaceGives, ElseGives, Evals}
use Rattle.mp_jobs.specs.declared.node.Node.{Node, Node-F, Todo, Claimed, Done, Then, Leaves, Else, Race, Check, roll-Node}
use Rattle.mp_jobs.specs.declared.node.Node.TheVariants.{rolls-Todo, rolls-Claimed, rolls-Done, rolls-Then, rolls-Leaves, rolls-Else, rolls-Race, rolls-Check}
use Rattle.mp_jobs.specs.declared.node.Node.TheFolds.{rec-Node, rec-roll-Node, map-Node}
use Rattle.mp_jobs.specs.declared.node.Node.TheOpen as layer
use Rattle.mp_jobs.specs.Yields.{LeavesGive, ThenGives, CheckGives, yields_step, Yields}

-- one way through an equation
pub through : {G : Type 0} {a b : Given G} → a ≡ b → (o : Outcome G) → a o → b o
through e o y = subst (λ (q : Given _). q o) e y

-- the parts may be read before or after they are taken from the layer
module _ {X G : Type 0} (v : X → Node G) (k : Node G → Given G) where
  abbrev Read : X → Given G
  Read p = k (v p)

  each_map : (ks : List X) (ts : List (Tree G)) → EachTree Read ks ts ≡ EachTree k (map v ks) ts
  each_map [] [] = refl
  each_map [] (t ∷ ts) = refl
  each_map (x ∷ ks) [] = refl
  each_map (x ∷ ks) (t ∷ ts) = λ i. k (v x) (outcome.Tree t) × each_map ks ts i

  fails_map : (ks : List X) (e : Failure G) → SomeFails Read ks e ≡ SomeFails k (map v ks) e
  fails_map [] e = refl
  fails_map (x ∷ ks) e = λ i. k (v x) (outcome.Failure e) ⊎ ((t : Tree G) × k (v x) (outcome.Tree t) × fails_map ks e i)

  gives_map : (ks : List X) (o : Outcome G) → SomeGives Read ks o ≡ SomeGives k (map v ks) o
  gives_map [] o = refl
  gives_map (x ∷ ks) o = λ i. k (v x) o ⊎ gives_map ks o i

  fail_map : (ks : List X) (e : Failure G) → AllFail Read ks e ≡ AllFail k (map v ks) e
  fail_map [] e = refl
  fail_map (x ∷ []) e = refl
  fail_map (x ∷ z ∷ ks) e = λ i. ((d : Failure G) × k (v x) (outcome.Failure d)) × fail_map (z ∷ ks) e i

  leaves_map : (t : Tree G) (ks : List X) (c : Bool) (o : Outcome G) → LeavesGive Read t ks c o ≡ LeavesGive k t (map v ks) c o
  leaves_map t ks false (outcome.Failure e) = fails_map ks e
  leaves_map t ks true (outcome.Failure e) = fails_map ks e
  leaves_map t ks true (outcome.Tree w) = refl
  leaves_map t ks false (outcome.Tree w) = λ i. (ts : List (Tree G)) × each_map ks ts i × (w ≡ graft_of t ts)

  race_map : (ks : List X) (o : Outcome G) → RaceGives Read ks o ≡ RaceGives k (map v ks) o
  race_map ks (outcome.Tree t) = gives_map ks (outcome.Tree t)
  race_map ks (outcome.Failure e) = fail_map ks e

module _ {L G J : Type 0} (meaning : L → Meaning G J) (p : ProblemState L J) where
  abbrev Y : Node G → Given G
  Y = Yields meaning p

  abbrev at_layer : (X : Type 0) → (X → Node G) → (X → Given G) → Node-F G X → Given G
  at_layer = yields_step meaning p

  natural : (X : Type 0) (v : X → Node G) (k : Node G → Given G) (x : Node-F G X) → at_layer X v (λ p. k (v p)) x ≡ at_layer (Node G) (λ y. y) k (map-Node G X (Node G) v x)
  natural X v k (layer.Todo w) = refl
  natural X v k (layer.Claimed e who w) = refl
  natural X v k (layer.Done o) = refl
  natural X v k (layer.Then w f) = refl
  natural X v k (layer.Leaves t ks c) = λ i o. leaves_map v k t ks c o i
  natural X v k (layer.Else a b) = refl
  natural X v k (layer.Race ks) = λ i o. race_map v k ks o i
  natural X v k (layer.Check w f) = refl

  at : (l : Node-F G (Node G)) → rec-Node G (Given G) at_layer (roll-Node G l) ≡ at_layer (Node G) (λ y. y) Y l
  at l = rec-roll-Node G (Given G) at_layer natural l

  pub yields-Todo : (w : Work G) → Y (Todo w) ≡ Evals meaning p w
  yields-Todo w = ap Y (sym (rolls-Todo w)) ∙ at (layer.Todo w)

  pub yields-Claimed : (e who : ℕ) (w : Work G) → Y (Claimed e who w) ≡ Evals meaning p w
  yields-Claimed e who w = ap Y (sym (rolls-Claimed e who w)) ∙ at (layer.Claimed e who w)

  pub yields-Done : (p : Outcome G) → Y (Done p) ≡ (λ o. o ≡ p)
  yields-Done p = ap Y (sym (rolls-Done p)) ∙ at (layer.Done p)

  pub yields-Then : (w : Work G) (f : Node G) → Y (Then w f) ≡ ThenGives meaning p (slice_get p.tacs w.tac.0) w (Y f)
  yields-Then w f = ap Y (sym (rolls-Then w f)) ∙ at (layer.Then w f)

  pub yields-Check : (w : Work G) (f : Node G) → Y (Check w f) ≡ CheckGives meaning p (slice_get p.tacs w.tac.0) w (Y f)
  yields-Check w f = ap Y (sym (rolls-Check w f)) ∙ at (layer.Check w f)

  pub yields-Leaves : (t : Tree G) (ks : List (Node G)) (c : Bool) → Y (Leaves t ks c) ≡ LeavesGive Y t ks c
  yields-Leaves t ks c = ap Y (sym (rolls-Leaves t ks c)) ∙ at (layer.Leaves t ks c)

  pub yields-Else : (a b : Node G) → Y (Else a b) ≡ ElseGives (Y a) (Y b)
  yields-Else a b = ap Y (sym (rolls-Else a b)) ∙ at (layer.Else a b)

  pub yields-Race : (ks : List (Node G)) → Y (Race ks) ≡ RaceGives Y ks
  yields-Race ks = ap Y (sym (rolls-Race ks)) ∙ at (layer.Race ks)
