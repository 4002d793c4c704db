-- Each goal of what a good goal gives is good.
use Rattle.std.proofs.Common.{◌≡◌, ℕ, true, List, [], ◌∷◌, map, IsTrue, sym, subst}
use Rattle.std.proofs.lemmas.Bool.{and_parts}
use Rattle.std.specs.List.{AllByRecursion, list_all}
use Rattle.std.specs.Prelude.{IfOk}
use Rattle.mp_logic.specs.declared.tree.Tree.{Tree, Leaf, Step}
use Rattle.mp_logic.specs.declared.tree.Tree.TheFolds.{every-Tree}
use Rattle.mp_logic.specs.declared.tree.Tree.TheOpen.{Tree-F}
use Rattle.mp_logic.specs.declared.tree.Tree.TheOpen as layer
use Rattle.mp_logic.specs.declared.tree.JustId.{JustId}
use Rattle.mp_logic.specs.Meaning.{Meaning, IsLogic}
use Rattle.mp_logic.specs.Steps as steps
use Rattle.mp_logic.specs.Trees.{root_of, goal_at}
use Rattle.mp_logic.specs.Valid.{IsValid, StepHolds, EachGoal}
use Rattle.mp_logic.proofs.Every.{every_leaf, every_step}
use Rattle.mp_logic.proofs.TreeInduction.{tree_ind}
use Rattle.mp_strategy.specs.declared.tactic.Tac.{Tac}
use Rattle.mp_strategy.specs.declared.outcome.Outcome.{Outcome}
use Rattle.mp_strategy.specs.declared.outcome.Outcome.TheVariants as outcome
use Rattle.mp_strategy.specs.declared.problem.ProblemState.{ProblemState}
use Rattle.mp_strategy.specs.Laws.{IsGood, IsSoundFor, GoalsStayGood, ClosedGoalsAreDerivable}
use Rattle.mp_strategy.specs.Problems.{IsProblem}
use Rattle.mp_strategy.specs.Strategies.{EvalsIn}
use Rattle.mp_strategy.proofs.Goods.{allowed_at, AreGood, good_in}
use Rattle.mp_strategy.proofs.Sound.{sound_in}
use Rattle.mp_strategy.proofs.Steps.{root-Leaf, root-Step, every_here, every_kid}

module _ {G J : Type 0} (m : Meaning G J) (lawful : IsLogic m) (justs : List J) (all_allowed : IsTrue (list_all m.allowed justs)) where
  abbrev Holds : Tree G → Type 0
  Holds t = every-Tree G (StepHolds m.step justs) t

  -- the kids of a step on a good goal have good goals
  pub good_kids : (g : G) (just : JustId) (kids : List (Tree G)) → IsTrue (m.good g) → StepHolds m.step justs (layer.Step g just kids) → AllByRecursion (λ k. IsTrue (m.good (root_of k))) kids
  good_kids g just kids h (j, is, makes) =
      each kids (subst (λ (o : steps.Outcome G). IfOk o (λ goals. IsTrue (list_all m.good goals))) makes (lawful.keeps_good j g (allowed_at m.allowed justs just.0 j all_allowed is) h)) where
        each : (ks : List (Tree G)) → list_all m.good (map root_of ks) ≡ true → AllByRecursion (λ k. IsTrue (m.good (root_of k))) ks
        each [] e = tt
        each (k ∷ ks) e = let both = and_parts (m.good (root_of k)) (list_all m.good (map root_of ks)) e in (both.0, each ks both.1)

  abbrev Turns : Tree G → Type 0
  Turns t = IsTrue (m.good (root_of t)) → Holds t → EachGoal (λ g. IsTrue (m.good g)) t

  abbrev Here : Tree-F G (Tree G) → Type 0
  Here l = IsTrue (m.good (goal_at l))

  turns_leaf : (g : G) → Turns (Leaf g)
  turns_leaf g h holds = every_leaf Here g (subst (λ x. IsTrue (m.good x)) (root-Leaf g) h)

  turns_each : (kids : List (Tree G)) → AllByRecursion Turns kids → AllByRecursion (λ k. IsTrue (m.good (root_of k))) kids → AllByRecursion Holds kids → AllByRecursion (every-Tree G Here) kids
  turns_each [] t h k = tt
  turns_each (x ∷ xs) t h k = (t.0 h.0 k.0, turns_each xs t.1 h.1 k.1)

  turns_step : (g : G) (just : JustId) (kids : List (Tree G)) → AllByRecursion Turns kids → Turns (Step g just kids)
  turns_step g just kids turns h holds =
      let here : IsTrue (m.good g) = subst (λ x. IsTrue (m.good x)) (root-Step g just kids) h in
      every_step Here g just kids
      (turns_each kids turns (good_kids g just kids here (every_here (StepHolds m.step justs) g just kids holds)) (every_kid (StepHolds m.step justs) g just kids holds)) here

  pub inner_good : (t : Tree G) (g : G) → IsTrue (m.good g) → IsValid m.step justs t g → EachGoal (λ h. IsTrue (m.good h)) t
  inner_good t g h valid = tree_ind Turns turns_leaf turns_step t (subst (λ x. IsTrue (m.good x)) (sym valid.0) h) valid.1

  all_good : (o : Outcome G) (f : ℕ) (g : G) → IsTrue (m.good g) → IsSoundFor m.step justs f g o → AreGood m.good o → IsGood m o
  all_good (outcome.Tree t) f g h sound leaves = inner_good t g h sound.0
  all_good (outcome.Failure e) f g h sound good = good

  pub in_good : (here : ℕ) (ts : List Tac) (at left f : ℕ) (g : G) (o : Outcome G) → IsTrue (m.good g) → EvalsIn m justs here ts at left f g o → IsGood m o
  in_good here ts at left f g o h gives = all_good o f g h (sound_in m justs here ts at left f g o gives) (good_in m lawful justs all_allowed here ts at left f g o h gives)

module _ {L G J : Type 0} (meaning : L → Meaning G J) (p : ProblemState L J) (lawful : IsLogic (meaning p.logic)) (is : IsProblem meaning p) where
  pub goals_good : GoalsStayGood meaning p
  goals_good work o good gives = in_good (meaning p.logic) lawful p.justs is.allowed 0 p.tacs work.tac.0 work.left work.fuel work.goal o good gives

  pub closed_derivable : ClosedGoalsAreDerivable meaning p
  closed_derivable work t good gives closed =
      (good, p.justs, is.allowed, t, (sound_in (meaning p.logic) p.justs 0 p.tacs work.tac.0 work.left work.fuel work.goal (outcome.Tree t) gives).0, closed)
