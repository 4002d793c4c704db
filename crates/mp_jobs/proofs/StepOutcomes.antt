-- A step of a good goal gives good goals, and no more than the width of the logic.
use Rattle.std.proofs.Common.{◌≡◌, ℕ, zero, suc, ◌≤◌, IsTrue, true, List, [], ◌∷◌, map, length, sum, refl, Some, None, Ok, Err, arith}
use Rattle.std.proofs.lemmas.Bool.{and_parts}
use Rattle.std.proofs.lemmas.Grind.{common_steps}
use Rattle.std.specs.declared.option.Option.{Option}
use Rattle.std.specs.List.{AllByRecursion, list_all}
use Rattle.std.specs.Prelude.{slice_get, IfOk}
use Rattle.mp_logic.specs.declared.tree.Tree.{Leaf}
use Rattle.mp_logic.specs.declared.tree.JustId.{JustId}
use Rattle.mp_logic.specs.Meaning.{Meaning, IsLogic}
use Rattle.mp_logic.specs.Steps as steps
use Rattle.mp_logic.specs.Trees.{leaf_count_of, goal_at}
use Rattle.mp_logic.specs.Valid.{EachGoal}
use Rattle.mp_logic.proofs.Every.{every_step}
use Rattle.mp_strategy.specs.declared.problem.ProblemState.{ProblemState}
use Rattle.mp_strategy.specs.declared.outcome.Outcome.{Outcome}
use Rattle.mp_strategy.specs.Laws.{IsGood}
use Rattle.mp_strategy.specs.Problems.{IsProblem}
use Rattle.mp_strategy.specs.Strategies.{stepped, step_or_failed, step_with}
use Rattle.mp_strategy.proofs.Goods.{allowed_at}
use Rattle.mp_strategy.proofs.LeafCounts.{count-Leaf, count-Step}
use Rattle.mp_jobs.specs.Sizes.{width_of}
use Rattle.mp_jobs.proofs.GoodGrafts.{one_goal}

module _ {L G J : Type 0} (meaning : L → Meaning G J) (p : ProblemState L J) (lawful : IsLogic (meaning p.logic)) (is : IsProblem meaning p) where
  abbrev Good : G → Type 0
  Good g = IsTrue ((meaning p.logic).good g)

  abbrev pub Fine : Outcome G → Type 0
  Fine o = IsGood (meaning p.logic) o × (width_of o ≤ (meaning p.logic).width)

  leaves_good : (gs : List G) → list_all (meaning p.logic).good gs ≡ true → AllByRecursion (EachGoal Good) (map Leaf gs)
  leaves_good [] h = tt
  leaves_good (g ∷ gs) h = let b = and_parts ((meaning p.logic).good g) (list_all (meaning p.logic).good gs) h in (one_goal Good g b.0, leaves_good gs b.1)

  as_many : (gs : List G) → sum (map leaf_count_of (map Leaf gs)) ≡ length gs
  as_many [] = refl
  as_many (g ∷ gs) = let a = count-Leaf g in let b = as_many gs in grind (arith, common_steps, a, b)

  fine_step : (here : ℕ) (j : JustId) (g : G) (r : steps.Outcome G) → Good g → IfOk r (λ kids. IsTrue (list_all (meaning p.logic).good kids)) → IfOk r (λ kids. length kids ≤ (meaning p.logic).width) → Fine (stepped here j g r)
  fine_step here j g (Ok kids) h k l =
      (every_step (λ layer. Good (goal_at layer)) g j (map Leaf kids) (leaves_good kids k) h, (let a = count-Step g j (map Leaf kids) in let b = as_many kids in omega (arith, a, b, l)))
  fine_step here j g (Err w) h k l = (h, omega arith)

  fine_by : (o : Option J) (here : ℕ) (j : JustId) (g : G) → slice_get p.justs j.0 ≡ o → Good g → Fine (step_or_failed (meaning p.logic) o here j g)
  fine_by None here j g e h = (h, omega arith)
  fine_by (Some x) here j g e h =
      let a = allowed_at (meaning p.logic).allowed p.justs j.0 x is.allowed e in
      fine_step here j g ((meaning p.logic).step x g) h (lawful.keeps_good x g a h) (lawful.within_width x g a h)

  pub fine : (here : ℕ) (j : JustId) (fuel : ℕ) (g : G) → Good g → Fine (step_with (meaning p.logic) p.justs here j fuel g)
  fine here j zero g h = (h, omega arith)
  fine here j (suc f) g h = fine_by (slice_get p.justs j.0) here j g refl h
