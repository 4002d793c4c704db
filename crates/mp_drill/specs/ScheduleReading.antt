-- What the reader of schedules answers of a text.
use Rattle.std.specs.Prelude.{ℕ, List, Result}
use Rattle.mp_logic.specs.declared.sym.Sym.{Sym}
use Rattle.mp_words.specs.declared.fail.TextErr.{TextErr}
use Rattle.mp_words.specs.declared.fail.TextFail.{TextFail}
use Rattle.mp_words.specs.Texts.{IsText, IsFaulty, OneText, ReadsText, SomeText, one_pass}
use Rattle.mp_drill.specs.declared.schedule.Section.{Section}
use Rattle.mp_drill.specs.ScheduleGrammar.{schedule}
use Rattle.mp_drill.specs.ScheduleStatics.{schedule_faults}
use Rattle.mp_drill.specs.ScheduleValues.{schedule_of}

-- these sections are all of the text, for these goals: it has no lexical fault, its words are in the grammar of
-- schedules, no static rule is broken, and these are the sections that are written
abbrev pub IsScheduleText : List Sym → List (List ℕ) → List ℕ → List Section → Type 0
IsScheduleText goals = IsText schedule (one_pass (schedule_faults goals)) schedule_of

-- this is the one fault of the text: the first lexical one; else Syntax at the word at which the grammar is stuck; else the
-- least static one
abbrev pub IsScheduleFault : List Sym → List (List ℕ) → List ℕ → TextErr → Type 0
IsScheduleFault goals = IsFaulty schedule (one_pass (schedule_faults goals)) schedule_of

-- what the reader of schedules answers of a text for these goals, and the names that are known then
abbrev pub ReadsSchedule : List Sym → List (List ℕ) → List ℕ → Result (List Section) TextFail → List (List ℕ) → Type 0
ReadsSchedule goals = ReadsText schedule (one_pass (schedule_faults goals)) schedule_of

-- for given goals a text has one schedule or one fault, and not both
abbrev pub OneScheduleText : Type 0
OneScheduleText = (goals : List Sym) → OneText schedule (one_pass (schedule_faults goals)) schedule_of

-- for given goals a text has a schedule or a fault
abbrev pub SomeScheduleText : Type 0
SomeScheduleText = (goals : List Sym) → SomeText schedule (one_pass (schedule_faults goals)) schedule_of
