-- What the texts of a command say, each read in its turn.
use Rattle.std.specs.Prelude.{List, [], map}
use Rattle.mp_logic.specs.declared.sym.Sym.{Sym}
use Rattle.mp_theory.specs.Tables.{Laws, no_laws}
use Rattle.mp_theorytext.specs.Reading.{ReadsTheory}
use Rattle.mp_scripttext.specs.declared.script.Entry.{Entry}
use Rattle.mp_scripttext.specs.declared.script.Script.{Script as Goals}
use Rattle.mp_scripttext.specs.Reading.{ReadsScript}
use Rattle.mp_drill.specs.declared.schedule.Event.{Event}
use Rattle.mp_drill.specs.ScheduleReading.{ReadsSchedule}
use Rattle.mp_drill.specs.Sections.{events_of}
use Rattle.mp_treetext.specs.declared.printed.Printed.{Printed}
use Rattle.mp_treetext.specs.Reading.{ReadsTrees}
use Rattle.mp_report.specs.declared.refusal.FileKind.TheVariants.{Theory, Script, Schedule, Trees}
use Rattle.mp_run.specs.Commands.{From, Task, Seq, Drill, Replay, Command}
use Rattle.mp_run.specs.Parts.{Names, Part, gives, and_then, read_as}

-- how the tree of a goal is searched for: the goal is evaluated; or its events are drilled
pub data Search : Type 0 where
  Evaluated : Search
  Drilled : (events : Sym → List Event) → Search

-- what is done with the goals of a script, with what was read for it: a tree of each is searched for; or the block of each in a tree file is
-- checked
pub data Plan : Type 0 where
  Searched : (search : Search) → Plan
  Replayed : (blocks : List Printed) → Plan

-- what the texts of a command say: the names that are known, the theory, the goals, and what is done with them
pub record Said : Type 0 where
  pub names : Names
  pub theory : Laws
  pub goals : List Entry
  pub plan : Plan

-- the names of goals, in order
abbrev pub goal_names : List Entry → List Sym
goal_names = map (λ e. e.name)

-- a schedule is read for the goals of a script, and each has the events of its section
abbrev pub drill_part : From → Goals → Names → Part (Plan × Names)
drill_part schedule goals names =
    and_then (read_as Schedule schedule (ReadsSchedule (goal_names goals.entries) names)) (λ said. gives (Searched (Drilled (events_of said.0)), said.1))

-- a tree file is read for the goals of a script in a theory, and has a block for each
abbrev pub replay_part : From → Laws → Goals → Names → Part (Plan × Names)
replay_part trees theory goals names =
    and_then (read_as Trees trees (ReadsTrees theory (goal_names goals.entries) names)) (λ said. gives (Replayed said.0, said.1))

-- the plan of a task for the goals of a script in a theory
abbrev pub plan_part : Task → Laws → Goals → Names → Part (Plan × Names)
plan_part Seq theory goals names = gives (Searched Evaluated, names)
plan_part (Drill schedule) theory goals names = drill_part schedule goals names
plan_part (Replay trees) theory goals names = replay_part trees theory goals names

-- all that is said, by what is read after the theory and the script
abbrev pub after_script : Task → Laws → Goals × Names → Part Said
after_script task theory script =
    and_then (plan_part task theory script.0 script.1) (λ plan. gives (record { names = plan.1; theory = theory; goals = script.0.entries; plan = plan.0 }))

-- all that is said, by what is read after the theory
abbrev pub after_theory : From → Task → Laws × Names → Part Said
after_theory script task theory = and_then (read_as Script script (ReadsScript theory.0 theory.1)) (after_script task theory.0)

-- the texts of a command are read, each in its turn: the theory, the script in it, and what its task reads; the first one that can't be
-- read or is refused ends the run
abbrev pub loads : Command → Part Said
loads c = and_then (read_as Theory c.theory (ReadsTheory no_laws [])) (after_theory c.script c.task)
