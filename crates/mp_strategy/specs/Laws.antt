-- What holds of all that strategies give.
use Rattle.std.specs.Prelude.{◌≡◌, ℕ, ◌+◌, ◌<◌, ◌≤◌, IsTrue, List, length, ⊤}
use Rattle.mp_logic.specs.declared.tree.Tree.{Tree}
use Rattle.mp_logic.specs.declared.tree.Tree.TheOpen.{Tree-F}
use Rattle.mp_logic.specs.declared.tree.Tree.TheOpen as layer
use Rattle.mp_logic.specs.declared.tree.Tree.TheFolds.{fold-Tree}
use Rattle.mp_logic.specs.Lists.{greatest}
use Rattle.mp_logic.specs.Meaning.{Meaning}
use Rattle.mp_logic.specs.Steps as steps
use Rattle.mp_logic.specs.Trees.{leaf_count_of}
use Rattle.mp_logic.specs.Valid.{IsValid, EachGoal, Derivable}
use Rattle.mp_strategy.specs.declared.outcome.Outcome.{Outcome}
use Rattle.mp_strategy.specs.declared.outcome.Outcome.TheVariants as outcome
use Rattle.mp_strategy.specs.declared.problem.ProblemState.{ProblemState}
use Rattle.mp_strategy.specs.declared.work.Work.{Work}
use Rattle.mp_strategy.specs.Fits.{no_race_in}
use Rattle.mp_strategy.specs.Strategies.{Evals}
use Rattle.mp_strategy.specs.Evaluation.{eval}

-- the depth of a tree by those of its kids
abbrev pub tree_depth_step : {G : Type 0} → Tree-F G ℕ → ℕ
tree_depth_step (layer.Leaf g) = 0
tree_depth_step (layer.Step g just kids) = 1 + greatest kids

-- the greatest number of steps on a path of the tree
abbrev pub tree_depth_of : {G : Type 0} → Tree G → ℕ
tree_depth_of {G} = fold-Tree G ℕ tree_depth_step

-- a tree is valid for the goal, and no path of it has more steps than so much fuel
abbrev pub IsSoundFor : {G J : Type 0} → (J → G → steps.Outcome G) → List J → ℕ → G → Outcome G → Type 0
IsSoundFor step justs f g (outcome.Tree t) = IsValid step justs t g × (tree_depth_of t ≤ f)
IsSoundFor step justs f g (outcome.Failure e) = ⊤

-- each goal of an outcome is good: of a tree the inner ones and the open ones, of a failure the goal that it arose at
abbrev pub IsGood : {G J : Type 0} → Meaning G J → Outcome G → Type 0
IsGood m (outcome.Tree t) = EachGoal (λ g. IsTrue (m.good g)) t
IsGood m (outcome.Failure e) = IsTrue (m.good e.goal)

-- the meanings are alike for strategies: an allowed justification gives a good goal the same step, and the test of goals is
-- the same
pub record AreAlike {G J : Type 0} (m n : Meaning G J) : Type 0 where
  pub step : (j : J) (g : G) → IsTrue (m.allowed j) → IsTrue (m.good g) → m.step j g ≡ n.step j g
  pub same : (a b : G) → m.same a b ≡ n.same a b

module _ {L G J : Type 0} (meaning : L → Meaning G J) (p : ProblemState L J) where
  -- a tree is valid for the work's goal, and no path of it has more steps than the work's fuel
  abbrev pub IsSound : Work G → Outcome G → Type 0
  IsSound work o = IsSoundFor (meaning p.logic).step p.justs work.fuel work.goal o

  -- what evaluation gives of a work is an outcome that the relation allows
  abbrev pub EvalIsAllowed : Type 0
  EvalIsAllowed = (work : Work G) → work.tac.0 < length p.tacs → Evals meaning p work (eval meaning p work)

  -- where no race can be reached from a work's strategy, the relation allows nothing but what evaluation gives
  abbrev pub OnlyEvalIsAllowed : Type 0
  OnlyEvalIsAllowed = (work : Work G) (o : Outcome G) → IsTrue (no_race_in 0 p.tacs work.tac.0) → Evals meaning p work o → o ≡ eval meaning p work

  -- each tree that the relation allows is valid for the work's goal, and no path of it has more steps than the work's fuel
  abbrev pub TreesAreSound : Type 0
  TreesAreSound = (work : Work G) (o : Outcome G) → Evals meaning p work o → IsSound work o

  -- a good goal gives good goals
  abbrev pub GoalsStayGood : Type 0
  GoalsStayGood = (work : Work G) (o : Outcome G) → IsTrue ((meaning p.logic).good work.goal) → Evals meaning p work o → IsGood (meaning p.logic) o

  -- each goal of a tree that is valid for a good goal is good
  abbrev pub InnerGoalsAreGood : Type 0
  InnerGoalsAreGood = (t : Tree G) (g : G) → IsTrue ((meaning p.logic).good g) → IsValid (meaning p.logic).step p.justs t g → EachGoal (λ h. IsTrue ((meaning p.logic).good h)) t

  -- the good goal of a work that gives a tree without open leaves is derivable
  abbrev pub ClosedGoalsAreDerivable : Type 0
  ClosedGoalsAreDerivable =
      (work : Work G) (t : Tree G) → IsTrue ((meaning p.logic).good work.goal) → Evals meaning p work (outcome.Tree t) → leaf_count_of t ≡ 0 → Derivable (meaning p.logic) work.goal

  -- another meaning that is alike gives each work on a good goal the same outcome
  abbrev pub SameOutcomes : Type 0
  SameOutcomes =
      (other : L → Meaning G J) (work : Work G) → AreAlike (meaning p.logic) (other p.logic) → IsTrue ((meaning p.logic).good work.goal) → eval meaning p work ≡ eval other p work
