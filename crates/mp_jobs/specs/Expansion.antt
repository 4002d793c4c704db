-- Expansion: what a job that is to do becomes.
use Rattle.std.specs.Prelude.{ℕ, zero, suc, map, Some, None, slice_get}
use Rattle.std.specs.declared.option.Option.{Option}
use Rattle.mp_logic.specs.declared.tree.Tree.{Leaf}
use Rattle.mp_logic.specs.Meaning.{Meaning}
use Rattle.mp_strategy.specs.declared.tactic.Tac.{Tac}
use Rattle.mp_strategy.specs.declared.tactic.Tac.TheVariants as tac
use Rattle.mp_strategy.specs.declared.tactic.TacId.{TacId}
use Rattle.mp_strategy.specs.declared.outcome.Kind.TheVariants as kind
use Rattle.mp_strategy.specs.declared.outcome.Outcome.TheVariants as outcome
use Rattle.mp_strategy.specs.declared.problem.ProblemState.{ProblemState}
use Rattle.mp_strategy.specs.declared.work.Work.{Work}
use Rattle.mp_strategy.specs.Strategies.{failure, step_with}
use Rattle.mp_strategy.specs.Works.{work_of}
use Rattle.mp_jobs.specs.declared.node.Node.{Node, Todo, Done, Then, Else, Race, Check, out-Node}
use Rattle.mp_jobs.specs.Jobs.{on_todo}
use Rattle.mp_jobs.specs.Walks.{Rule}

module _ {L G J : Type 0} (meaning : L → Meaning G J) (p : ProblemState L J) where
  -- the job of a part of a work's strategy, on the same goal with the same fuel
  abbrev pub part_job : Work G → TacId → Node G
  part_job w a = Todo (work_of p.tacs a w.fuel w.goal)

  -- a repeat with so many times left: with none left the goal is open
  abbrev pub repeated : ℕ → Work G → TacId → Node G
  repeated zero w a = Done (outcome.Tree (Leaf w.goal))
  repeated (suc n) w a = Then w (part_job w a)

  -- what the job of a work with this strategy becomes; no work has a strategy that isn't in the table
  abbrev pub expansion_by : Option Tac → Work G → Node G
  expansion_by (Some tac.Id) w = Done (outcome.Tree (Leaf w.goal))
  expansion_by (Some tac.Fail) w = Done (failure kind.Failed w.tac.0 w.goal)
  expansion_by (Some (tac.Step j)) w = Done (step_with (meaning p.logic) p.justs w.tac.0 j w.fuel w.goal)
  expansion_by (Some (tac.Then a b)) w = Then w (part_job w a)
  expansion_by (Some (tac.ThenL a bs)) w = Then w (part_job w a)
  expansion_by (Some (tac.Else a b)) w = Else (part_job w a) (part_job w b)
  expansion_by (Some (tac.Race bs)) w = Race (map (part_job w) bs)
  expansion_by (Some (tac.Repeat n a)) w = repeated w.left w a
  expansion_by (Some (tac.Progress a)) w = Check w (part_job w a)
  expansion_by (Some (tac.Complete a)) w = Check w (part_job w a)
  expansion_by None w = Done (failure kind.Failed w.tac.0 w.goal)

  -- what the job of a work becomes
  abbrev pub expansion : Work G → Node G
  expansion w = expansion_by (slice_get p.tacs w.tac.0) w

  -- a job that is to do is expanded
  abbrev pub expand_rule : Rule G
  expand_rule n = on_todo (λ w. Some (expansion w)) (out-Node G n)
