-- What is printed of the goals of a script.
use Rattle.std.specs.Prelude.{◌≡◌, ◌≤◌, ℕ, ◌++◌, nat_eq, Bool, false, List, [], IsTrue, if◌then◌else◌}
use Rattle.mp_logic.specs.declared.sym.Sym.{Sym}
use Rattle.mp_logic.specs.declared.tree.Tree.{Tree}
use Rattle.mp_logic.specs.Trees.{leaf_count_of}
use Rattle.mp_logic.specs.Steps.{Outcome as StepOutcome}
use Rattle.mp_term.specs.declared.sequent.Sequent.{Sequent}
use Rattle.mp_theory.specs.Tables.{Laws}
use Rattle.mp_theory.specs.declared.just.Just.{Just}
use Rattle.mp_refiner.specs.Law.{IsStepFunction}
use Rattle.mp_refiner.specs.Steps.{meaning_with}
use Rattle.mp_strategy.specs.declared.problem.ProblemState.{ProblemState}
use Rattle.mp_strategy.specs.declared.work.Work.{Work}
use Rattle.mp_strategy.specs.declared.outcome.Outcome.{Outcome}
use Rattle.mp_strategy.specs.declared.outcome.Outcome.TheVariants as outcome
use Rattle.mp_strategy.specs.Works.{work_of}
use Rattle.mp_strategy.specs.Evaluation.{eval}
use Rattle.mp_strategy.specs.Laws.{tree_depth_of}
use Rattle.mp_drill.specs.declared.schedule.Event.{Event}
use Rattle.mp_drill.specs.declared.schedule.Reply.{Reply}
use Rattle.mp_drill.specs.declared.schedule.Section.{Section}
use Rattle.mp_drill.specs.Ranges.{are_in_range}
use Rattle.mp_drill.specs.Sections.{events_of}
use Rattle.mp_drill.specs.Trace.{IsTrace}
use Rattle.mp_scripttext.specs.declared.script.Entry.{Entry}
use Rattle.mp_report.specs.Results.{result_text}
use Rattle.mp_report.specs.Traces.{trace_text}
use Rattle.mp_run.specs.declared.piece.Piece.{Piece}
use Rattle.mp_run.specs.declared.piece.Verdict.{Verdict}
use Rattle.mp_run.specs.declared.piece.Verdict.TheVariants.{Closed, Open}
use Rattle.mp_run.specs.Parts.{Names}
use Rattle.mp_run.specs.Proofs.{Proves, IsDerivable}

-- whether the outcome is a tree without open leaves
abbrev pub is_closed_outcome : Outcome Sequent → Bool
is_closed_outcome (outcome.Tree t) = nat_eq (leaf_count_of t) 0
is_closed_outcome (outcome.Failure f) = false

-- the verdict on an outcome
abbrev pub verdict_of : Outcome Sequent → Verdict
verdict_of o = if is_closed_outcome o then Closed else Open

-- the problem of a goal: the laws of the theory, and the justifications and the strategies of the goal
abbrev pub problem_of : Laws → Entry → ProblemState Laws Just
problem_of theory entry = record { logic = theory; justs = entry.justs; tacs = entry.tacs }

-- the work of a goal: its whole strategy, with its fuel
abbrev pub goal_work : Entry → Work Sequent
goal_work entry = work_of entry.tacs (record { 0 = 0 }) entry.fuel entry.goal

-- what each justification gives each goal: subgoals, or a refusal
abbrev pub Steps : Type 0
Steps = Just → Sequent → StepOutcome Sequent

-- what a work of the goal's strategies evaluates to by these steps, from left to right
abbrev pub evaluate_by : Steps → Laws → Entry → Work Sequent → Outcome Sequent
evaluate_by steps theory entry = eval (meaning_with steps) (problem_of theory entry)

-- the piece of a goal with this outcome: a text that goes before, and the text of the outcome; its verdict is the outcome's. A tree
-- proves the goal by steps of the theory, no path of it has more steps than the goal's fuel, and a goal that is closed is derivable.
pub record IsBlock (names : Names) (theory : Laws) (entry : Entry) (before : List ℕ) (o : Outcome Sequent) (p : Piece) : Type 0 where
  pub valid : (t : Tree Sequent) → o ≡ outcome.Tree t → Proves theory entry.justs t entry.goal
  pub low : (t : Tree Sequent) → o ≡ outcome.Tree t → tree_depth_of t ≤ entry.fuel
  pub derivable : IsTrue (is_closed_outcome o) → IsDerivable theory entry.goal
  pub text : p.text ≡ before ++ result_text names theory entry.name entry.justs o
  pub verdict : p.verdict ≡ verdict_of o

-- a goal's piece if it is evaluated from left to right, by the steps of the theory
abbrev pub IsEvaluated : Names → Laws → Entry → Piece → Type 0
IsEvaluated names theory entry p =
    (steps : Steps) × IsStepFunction theory steps × IsBlock names theory entry [] (evaluate_by steps theory entry (goal_work entry)) p

-- a goal's piece if these events are drilled: the replies to them and the outcome are those of the trace by the steps of the theory, and
-- the text of the replies goes before
abbrev pub IsDrilled : Names → Laws → List Event → Entry → Piece → Type 0
IsDrilled names theory events entry p =
    (steps : Steps)
    × IsStepFunction theory steps
    × (replies : List Reply)
    × (o : Outcome Sequent)
    × IsTrace (evaluate_by steps theory entry) (goal_work entry) events replies o
    × IsBlock names theory entry (trace_text names entry.name events replies) o p

-- the events of each goal are in their ranges
abbrev pub GoalsInRange : List Section → Type 0
GoalsInRange sections = (name : Sym) → IsTrue (are_in_range (events_of sections name))
