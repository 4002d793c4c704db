-- The static rules of schedules as they are written.
use Rattle.std.specs.Prelude.{◌++◌, List, [], ◌∷◌, Option, not}
use Rattle.std.specs.List.{flat_map}
use Rattle.mp_logic.specs.declared.sym.Sym.{Sym}
use Rattle.mp_names.specs.Sets.{is_among}
use Rattle.mp_words.specs.declared.fail.TextErr.{TextErr}
use Rattle.mp_words.specs.declared.fail.TextWhy.TheVariants as why
use Rattle.mp_words.specs.declared.raw.RawName.{RawName}
use Rattle.mp_words.specs.declared.raw.RawNumber.{RawNumber}
use Rattle.mp_words.specs.Faults.{fault_if}
use Rattle.mp_words.specs.Ranges.{number_faults, written_number_faults}
use Rattle.mp_words.specs.Seconds.{second_faults}
use Rattle.mp_drill.specs.declared.limits.TheConstants.{LAST_WORKER, MOST_UNITS}
use Rattle.mp_drill.specs.declared.raw.RawEvent.{RawEvent}
use Rattle.mp_drill.specs.declared.raw.RawEvent.TheVariants as event
use Rattle.mp_drill.specs.declared.raw.RawSection.{RawSection}

-- the fault of the units of a send, if they are written and out of range
abbrev pub units_faults : Option RawNumber → List TextErr
units_faults = written_number_faults 1 MOST_UNITS

-- the faults of an event's numbers: workers are 0 to 64, and those that die or are lost 1 to 64; units are 1 to 1,000,000
abbrev pub event_faults : RawEvent → List TextErr
event_faults (event.Claim who) = number_faults 0 LAST_WORKER who
event_faults (event.Send who units) = number_faults 0 LAST_WORKER who ++ units_faults units
event_faults (event.Again who) = number_faults 0 LAST_WORKER who
event_faults (event.Die who) = number_faults 1 LAST_WORKER who
event_faults (event.Lose who) = number_faults 1 LAST_WORKER who
event_faults event.Reissue = []

-- the faults of the numbers of events
abbrev pub events_faults : List RawEvent → List TextErr
events_faults = flat_map event_faults

-- the fault of a name that is no goal's
abbrev pub goal_faults : List Sym → RawName → List TextErr
goal_faults goals n = fault_if (not (is_among goals n.name)) n.at why.UnknownName

-- the faults of a section but that its name is taken: its name is no goal's, and those of its events
abbrev pub section_faults : List Sym → RawSection → List TextErr
section_faults goals s = goal_faults goals s.goal ++ events_faults s.events

-- the static faults of a schedule for these goals: a second section of its name, and those of each section
abbrev pub schedule_faults : List Sym → List RawSection → List TextErr
schedule_faults goals ss = second_faults (λ s. s.goal) why.Taken ss ++ flat_map (section_faults goals) ss
