-- A strategy that is tried on a goal.
use Rattle.std.specs.Prelude.{ℕ, ◌<◌, ◌≤◌, IsTrue, List, length, slice_get}
use Rattle.mp_logic.specs.Meaning.{Meaning}
use Rattle.mp_strategy.specs.declared.limits.TheConstants.{MOST_FUEL}
use Rattle.mp_strategy.specs.declared.problem.ProblemState.{ProblemState}
use Rattle.mp_strategy.specs.declared.tactic.Tac.{Tac}
use Rattle.mp_strategy.specs.declared.tactic.TacId.{TacId}
use Rattle.mp_strategy.specs.declared.work.Work.{Work}
use Rattle.mp_strategy.specs.Strategies.{left_of}

-- the work of a strategy on a goal
abbrev pub work_of : {G : Type 0} → List Tac → TacId → ℕ → G → Work G
work_of tacs t f g = record { tac = t; left = left_of (slice_get tacs t.0); fuel = f; goal = g }

-- what each call asks of a work on a problem: its strategy is in the table, its fuel is within the limit, and its goal is good
pub record IsWork {L G J : Type 0} (meaning : L → Meaning G J) (p : ProblemState L J) (work : Work G) : Type 0 where
  pub tac : work.tac.0 < length p.tacs
  pub fuel : work.fuel ≤ MOST_FUEL
  pub good : IsTrue ((meaning p.logic).good work.goal)
