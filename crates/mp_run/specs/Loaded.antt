-- What the functions of this crate answer, in terms of parts.
use Rattle.std.specs.Prelude.{◌≡◌, ℕ, List, map, length, Result, Ok, Err, ⊤}
use Rattle.mp_logic.specs.declared.memory.NoMemory.{NoMemory}
use Rattle.mp_ports.specs.Calls.{Put}
use Rattle.mp_ports.specs.declared.ports.PutFailed.{PutFailed}
use Rattle.mp_theory.specs.Tables.{Laws, IsTheory}
use Rattle.mp_words.specs.declared.fail.TextFail.{TextFail}
use Rattle.mp_words.specs.declared.fail.TextFail.TheVariants as fail
use Rattle.mp_scripttext.specs.declared.script.Entry.{Entry}
use Rattle.mp_scripttext.specs.Entries.{EachGood}
use Rattle.mp_drill.specs.Sections.{events_of}
use Rattle.mp_treetext.specs.declared.printed.Printed.{Printed}
use Rattle.mp_treetext.specs.Printed.{EachGoodPrinted}
use Rattle.mp_report.specs.declared.refusal.FileKind.{FileKind}
use Rattle.mp_report.specs.Refusals.{refusal_text}
use Rattle.mp_run.specs.declared.command.Command.{Command as Words}
use Rattle.mp_run.specs.declared.command.Task.{Task as WordsTask}
use Rattle.mp_run.specs.declared.command.Task.TheVariants as words
use Rattle.mp_run.specs.declared.loading.Loaded.{Loaded}
use Rattle.mp_run.specs.declared.loading.Plan.{Plan as LoadedPlan}
use Rattle.mp_run.specs.declared.loading.Plan.TheVariants as plan
use Rattle.mp_run.specs.declared.loading.Search.{Search as LoadedSearch}
use Rattle.mp_run.specs.declared.loading.Search.TheVariants as search
use Rattle.mp_run.specs.declared.goals.Next.{Next}
use Rattle.mp_run.specs.declared.goals.Next.TheVariants as next
use Rattle.mp_run.specs.declared.piece.Piece.{Piece}
use Rattle.mp_run.specs.declared.piece.Verdict.{Verdict}
use Rattle.mp_run.specs.declared.piece.Verdict.TheVariants.{Closed, Open, Ends}
use Rattle.mp_run.specs.declared.status.Status.{Status}
use Rattle.mp_run.specs.declared.status.Status.TheVariants as status
use Rattle.mp_run.specs.declared.stop.Stop.{Stop}
use Rattle.mp_run.specs.declared.stop.Stop.TheVariants as stop
use Rattle.mp_run.specs.Commands.{Command, Task, Seq, Drill, Replay, Named}
use Rattle.mp_run.specs.Goals.{GoalsInRange}
use Rattle.mp_run.specs.Loads.{Search, Evaluated, Drilled, Plan, Searched, Replayed, Said}
use Rattle.mp_run.specs.Parts.{Names}
use Rattle.mp_run.specs.Sessions.{Pieces, Puts, put_of, status_of}

-- ## What is seen of values

-- the task with the bytes of its words
abbrev pub task_seen : WordsTask → Task
task_seen words.Seq = Seq
task_seen (words.Drill schedule) = Drill (Named schedule.now)
task_seen (words.Replay trees) = Replay (Named trees.now)

-- the command with the bytes of its words
abbrev pub command_seen : Words → Command
command_seen c = record { theory = Named c.theory.now; script = Named c.script.now; task = task_seen c.task }

-- the search, by the events that each goal has in its sections
abbrev pub search_seen : LoadedSearch → Search
search_seen search.Evaluated = Evaluated
search_seen (search.Drilled sections) = Drilled (events_of sections)

-- the plan, with what is seen of its search
abbrev pub plan_seen : LoadedPlan → Plan
plan_seen (plan.Searched s) = Searched (search_seen s)
plan_seen (plan.Replayed blocks) = Replayed blocks

-- what was loaded, as what the texts say
abbrev pub said_of : Loaded → Said
said_of loaded = record { names = loaded.names; theory = loaded.theory; goals = loaded.script.entries; plan = plan_seen loaded.plan }

-- what contracts see of a value, or what ends the run
abbrev pub seen_by : {V W : Type 0} → (V → W) → Result V Stop → Result W Stop
seen_by see (Ok value) = Ok (see value)
seen_by see (Err end) = Err end

-- a value with the names that are known then, or what ends the run
abbrev pub with_names : {V : Type 0} → Names → Result V Stop → Result (V × Names) Stop
with_names names out = seen_by (λ value. (value, names)) out

-- ## What was loaded can be run

-- a search's events are in their ranges, for each goal
abbrev pub SearchInRange : LoadedSearch → Type 0
SearchInRange search.Evaluated = ⊤
SearchInRange (search.Drilled sections) = GoalsInRange sections

-- each of these blocks can be checked in the theory, and there is one for each goal
pub record AreBlocks (theory : Laws) (entries : List Entry) (blocks : List Printed) : Type 0 where
  pub good : EachGoodPrinted theory blocks
  pub each : length blocks ≡ length entries

-- the plan can be carried out with these goals: its search is in range, or its blocks are theirs
abbrev pub IsPlanReady : Laws → List Entry → LoadedPlan → Type 0
IsPlanReady theory entries (plan.Searched s) = SearchInRange s
IsPlanReady theory entries (plan.Replayed blocks) = AreBlocks theory entries blocks

-- what was loaded can be run: its laws are a theory's, its goals can be evaluated in that theory, and its plan can be carried out with them
pub record IsReady (loaded : Loaded) : Type 0 where
  pub theory : IsTheory loaded.theory
  pub goals : EachGood loaded.theory loaded.script.entries
  pub plan : IsPlanReady loaded.theory loaded.script.entries loaded.plan

-- ## Pieces and refusals

-- a piece is put for each of these, each by one call
abbrev pub PutsPieces : {X : Type 0} → (X → Piece → Type 0) → List X → List Put → Status → Type 0
PutsPieces Is xs calls s = (ps : List Piece) × Pieces Is xs ps × Puts (map (λ p. p.text) ps) (status_of ps) calls s

-- how a run goes on after a piece of this verdict, by the status before it
abbrev pub next_after : Verdict → Status → Next
next_after Closed before = next.GoesOn before
next_after Open before = next.GoesOn status.NotAll
next_after (Ends s) before = next.Ends s

-- how it goes on after the put of that piece: a put that failed ends it
abbrev pub next_by : Result (Unit {0}) PutFailed → Verdict → Status → Next
next_by (Ok done) verdict before = next_after verdict before
next_by (Err failed) verdict before = next.Ends status.WriteFault

-- the piece that was made is put by one call; if memory ran out before, the run ends without one
abbrev pub PutsMade : {S : Type 0} → (S → S → Put → Type 0) → Result Piece NoMemory → Status → S → S → Next → Type 0
PutsMade R (Err lacking) before old new n = (new ≡ old) × (n ≡ next.Ends status.NoMemory)
PutsMade R (Ok p) before old new n = (answer : Result (Unit {0}) PutFailed) × R old new (put_of p.text answer) × (n ≡ next_by answer p.verdict before)

-- a line that was made refuses a file; else memory ran out
abbrev pub RefusesBy : Stop → List ℕ → Type 0
RefusesBy (stop.Refused line) due = line ≡ due
RefusesBy (stop.Fault file) due = ⊥
RefusesBy stop.NoMemory due = ⊤

-- the one fault of a text refuses its file, unless memory runs out
abbrev pub StopsRead : FileKind → TextFail → Stop → Type 0
StopsRead kind (fail.Bad e) (stop.Refused line) = line ≡ refusal_text kind e
StopsRead kind (fail.Bad e) stop.NoMemory = ⊤
StopsRead kind fail.NoMemory stop.NoMemory = ⊤
StopsRead kind f s = ⊥
