-- Plans, by the third file that is read.
use Rattle.std.proofs.Common.{◌≡◌, ℕ, inl, inr, List, [], ◌∷◌, if◌then◌else◌, Bool, true, false, nat_eq, IsTrue, Result, Ok, Err, refl, sym, subst}
use Rattle.mp_logic.specs.declared.sym.Sym.{Sym}
use Rattle.mp_ports.specs.Calls.{Read}
use Rattle.mp_theory.specs.Tables.{Laws}
use Rattle.mp_scripttext.specs.declared.script.Script.{Script as Goals}
use Rattle.mp_drill.specs.declared.schedule.Event.{Event}
use Rattle.mp_drill.specs.declared.schedule.Section.{Section}
use Rattle.mp_drill.specs.Ranges.{are_in_range}
use Rattle.mp_drill.specs.ScheduleReading.{ReadsSchedule}
use Rattle.mp_drill.specs.ScheduleValues.{EachInRange}
use Rattle.mp_drill.specs.Sections.{SameEvents, events_of}
use Rattle.mp_treetext.specs.declared.printed.Printed.{Printed}
use Rattle.mp_treetext.specs.Reading.{ReadsTrees}
use Rattle.mp_report.specs.declared.refusal.FileKind.{FileKind}
use Rattle.mp_report.specs.declared.refusal.FileKind.TheVariants.{Schedule, Trees}
use Rattle.mp_run.specs.declared.stop.Stop.{Stop}
use Rattle.mp_run.specs.declared.stop.Stop.TheVariants as stop
use Rattle.mp_run.specs.Commands.{From, Named}
use Rattle.mp_run.specs.Goals.{GoalsInRange}
use Rattle.mp_run.specs.Loads.{Plan, Searched, Drilled, Replayed, drill_part, goal_names, replay_part}
use Rattle.mp_run.specs.Parts.{Names, Reading, Part, Makes, and_then, gives, read_as}
use Rattle.mp_run.proofs.Chains.{stops, goes_on}

range_if : (b : Bool) (xs ys : List Event) → IsTrue (are_in_range xs) → IsTrue (are_in_range ys) → IsTrue (are_in_range (if b then xs else ys))
range_if true xs ys h k = h
range_if false xs ys h k = k

-- the events of a goal are in their ranges
range_of : (sections : List Section) (name : Sym) → EachInRange sections → IsTrue (are_in_range (events_of sections name))
range_of [] name h = refl
range_of (s ∷ ss) name h = range_if (nat_eq s.goal.0 name.0) s.events (events_of ss name) h.0 (range_of ss name h.1)

pub kept_range : (kept sections : List Section) → SameEvents kept sections → EachInRange sections → GoalsInRange kept
kept_range kept sections same h name = let P : List Event → Type 0 = λ es. IsTrue (are_in_range es) in subst P (sym (same name)) (range_of sections name h)

-- ## A third file

module _ {S V : Type 0} (R : S → S → Read → Type 0) (s t : S) (kind : FileKind) (from : From) (reads : Reading V) (plan : V → Plan) where
  abbrev next : V × Names → Part (Plan × Names)
  next said = gives (plan said.0, said.1)

  -- the plan by what the file says
  abbrev third_part : Part (Plan × Names)
  third_part = and_then (read_as kind from reads) next

  plan_stopped : (end : Stop) → Makes R (read_as kind from reads) s t (Err end) → Makes R third_part s t (Err end)
  plan_stopped end h = stops R (read_as kind from reads) next s t end h

  plan_made : (value : V) (later : Names) → Makes R (read_as kind from reads) s t (Ok (value, later)) → Makes R third_part s t (Ok (plan value, later))
  plan_made value later h =
      let out : Result (Plan × Names) Stop = Ok (plan value, later) in
      goes_on R (read_as kind from reads) next s t t (value, later) out h ([], refl, (refl, inl refl))

  -- memory runs out after it was read
  plan_lacks : (value : V) (later : Names) → Makes R (read_as kind from reads) s t (Ok (value, later)) → Makes R third_part s t (Err stop.NoMemory)
  plan_lacks value later h =
      let out : Result (Plan × Names) Stop = Err stop.NoMemory in
      goes_on R (read_as kind from reads) next s t t (value, later) out h ([], refl, (refl, inr refl))

-- ## Drills

module _ {S : Type 0} (R : S → S → Read → Type 0) (s t : S) (script : Goals) (names : Names) (file : List ℕ) (goals : List Sym) (is : goals ≡ goal_names script.entries) where
  -- what the schedule's text gives for these goals
  abbrev pub ScheduleMakes : Result (List Section × Names) Stop → Type 0
  ScheduleMakes out = Makes R (read_as Schedule (Named file) (ReadsSchedule goals names)) s t out

  of_script : (out : Result (List Section × Names) Stop) → ScheduleMakes out → Makes R (read_as Schedule (Named file) (ReadsSchedule (goal_names script.entries) names)) s t out
  of_script out h = subst (λ (gs : List Sym). Makes R (read_as Schedule (Named file) (ReadsSchedule gs names)) s t out) is h

  abbrev plan_by : List Section → Plan
  plan_by sections = Searched (Drilled (events_of sections))

  pub drill_stopped : (end : Stop) → ScheduleMakes (Err end) → Makes R (drill_part (Named file) script names) s t (Err end)
  drill_stopped end h = plan_stopped R s t Schedule (Named file) (ReadsSchedule (goal_names script.entries) names) plan_by end (of_script (Err end) h)

  -- sections are kept that give each goal the same events
  pub drill_made : (kept sections : List Section) (later : Names) → SameEvents kept sections → ScheduleMakes (Ok (sections, later)) → Makes R (drill_part (Named file) script names) s t (Ok (plan_by kept, later))
  drill_made kept sections later same h =
      let events : events_of sections ≡ events_of kept = λ i name. sym (same name) i in
      subst (λ (es : Sym → List Event). Makes R (drill_part (Named file) script names) s t (Ok (Searched (Drilled es), later))) events
      (plan_made R s t Schedule (Named file) (ReadsSchedule (goal_names script.entries) names) plan_by sections later (of_script (Ok (sections, later)) h))

  pub drill_lacks : (sections : List Section) (later : Names) → ScheduleMakes (Ok (sections, later)) → Makes R (drill_part (Named file) script names) s t (Err stop.NoMemory)
  drill_lacks sections later h = plan_lacks R s t Schedule (Named file) (ReadsSchedule (goal_names script.entries) names) plan_by sections later (of_script (Ok (sections, later)) h)

-- ## Replays

module _ {S : Type 0} (R : S → S → Read → Type 0) (s t : S) (theory : Laws) (script : Goals) (names : Names) (file : List ℕ) (goals : List Sym) (is : goals ≡ goal_names script.entries) where
  -- what the tree file's text gives for these goals
  abbrev pub TreesMake : Result (List Printed × Names) Stop → Type 0
  TreesMake out = Makes R (read_as Trees (Named file) (ReadsTrees theory goals names)) s t out

  for_script : (out : Result (List Printed × Names) Stop) → TreesMake out → Makes R (read_as Trees (Named file) (ReadsTrees theory (goal_names script.entries) names)) s t out
  for_script out h = subst (λ (gs : List Sym). Makes R (read_as Trees (Named file) (ReadsTrees theory gs names)) s t out) is h

  pub replay_stopped : (end : Stop) → TreesMake (Err end) → Makes R (replay_part (Named file) theory script names) s t (Err end)
  replay_stopped end h = plan_stopped R s t Trees (Named file) (ReadsTrees theory (goal_names script.entries) names) Replayed end (for_script (Err end) h)

  pub replay_made : (blocks : List Printed) (later : Names) → TreesMake (Ok (blocks, later)) → Makes R (replay_part (Named file) theory script names) s t (Ok (Replayed blocks, later))
  replay_made blocks later h = plan_made R s t Trees (Named file) (ReadsTrees theory (goal_names script.entries) names) Replayed blocks later (for_script (Ok (blocks, later)) h)
