-- What events and sections stand for that are written.
use Rattle.std.specs.Prelude.{ℕ, nat_abs, List, [], ◌∷◌, map, Option, None, Some, IsTrue, ⊤}
use Rattle.mp_drill.specs.declared.limits.TheConstants.{UNITS}
use Rattle.mp_words.specs.declared.raw.RawNumber.{RawNumber}
use Rattle.mp_drill.specs.declared.schedule.Event.{Event}
use Rattle.mp_drill.specs.declared.schedule.Event.TheVariants as drill
use Rattle.mp_drill.specs.declared.schedule.Section.{Section}
use Rattle.mp_drill.specs.declared.raw.RawEvent.{RawEvent}
use Rattle.mp_drill.specs.declared.raw.RawEvent.TheVariants as event
use Rattle.mp_drill.specs.declared.raw.RawSection.{RawSection}
use Rattle.mp_drill.specs.Ranges.{are_in_range}

-- the units of a send: those that are written, or 256
abbrev pub units_of : Option RawNumber → ℕ
units_of None = UNITS
units_of (Some units) = nat_abs units.value

-- the event that is written
abbrev pub event_of : RawEvent → Event
event_of (event.Claim who) = drill.Claim (nat_abs who.value)
event_of (event.Send who units) = drill.Send (nat_abs who.value) (units_of units)
event_of (event.Again who) = drill.Again (nat_abs who.value)
event_of (event.Die who) = drill.Die (nat_abs who.value)
event_of (event.Lose who) = drill.Lose (nat_abs who.value)
event_of event.Reissue = drill.Reissue

-- the section that is written
abbrev pub section_of : RawSection → Section
section_of s = record { goal = s.goal.name; events = map event_of s.events }

-- the sections that are written, in the order of the text
abbrev pub schedule_of : List RawSection → List Section
schedule_of = map section_of

-- each section's events are in range
abbrev pub EachInRange : List Section → Type 0
EachInRange [] = ⊤
EachInRange (s ∷ ss) = IsTrue (are_in_range s.events) × EachInRange ss
