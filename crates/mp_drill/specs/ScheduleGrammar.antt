-- The grammar of schedules, over words.
--   schedule = section*     section = "goal" Small event*
--   event = "claim" Num | "send" Num Num? | "again" Num | "die" Num | "lose" Num | "reissue"
use Rattle.std.specs.Prelude.{List, [], ◌∷◌, Option, Bool, false, ◌||◌}
use Rattle.mp_words.specs.declared.word.Word.{Word}
use Rattle.mp_words.specs.declared.word.Keyword.TheVariants as keyword
use Rattle.mp_words.specs.declared.raw.RawName.{RawName}
use Rattle.mp_words.specs.declared.raw.RawNumber.{RawNumber}
use Rattle.mp_words.specs.Grammars.{Grammar, Is, Stuck, both, forms, fronted, if_there, made, many, nothing, repeated}
use Rattle.mp_words.specs.Fronts.{a_number, is_word, name_behind, number_at}
use Rattle.mp_drill.specs.declared.raw.RawEvent.{RawEvent}
use Rattle.mp_drill.specs.declared.raw.RawEvent.TheVariants as raw
use Rattle.mp_drill.specs.declared.raw.RawSection.{RawSection}

-- what a worker sends, of the worker and the units, if those are written
abbrev pub send_of : RawNumber × Option RawNumber → RawEvent
send_of (who, units) = raw.Send who units

-- a word that begins an event, and the event behind that word
abbrev pub EventForm : Type 0
EventForm = (Word → Bool) × (Grammar Word RawEvent)

-- "claim" Num | "send" Num Num? | "again" Num | "die" Num | "lose" Num | "reissue"
abbrev pub event_forms : List EventForm
event_forms =
    (is_word keyword.Claim, made raw.Claim a_number)
    ∷ (is_word keyword.Send, made send_of (both a_number (if_there number_at)))
    ∷ (is_word keyword.Again, made raw.Again a_number)
    ∷ (is_word keyword.Die, made raw.Die a_number)
    ∷ (is_word keyword.Lose, made raw.Lose a_number)
    ∷ (is_word keyword.Reissue, nothing raw.Reissue)
    ∷ []

-- one of these words stands in front
abbrev pub begins_one : List EventForm → List Word → Bool
begins_one [] ts = false
begins_one (form ∷ others) ts = fronted form.0 ts || begins_one others ts

-- the word in front begins an event
abbrev pub begins_event : List Word → Bool
begins_event = begins_one event_forms

-- an event
abbrev pub event : Grammar Word RawEvent
event = forms event_forms

-- a section, of its goal's name and its events
abbrev pub raw_section : RawName × List RawEvent → RawSection
raw_section (goal, events) = record { goal = goal; events = events }

-- "goal" Small event*
abbrev pub section : Grammar Word RawSection
section = made raw_section (both (name_behind keyword.Goal) (repeated begins_event event))

-- section*
abbrev pub schedule : Grammar Word (List RawSection)
schedule = many section

-- the sections are the words up to these
abbrev pub IsSchedule : List RawSection → List Word → List Word → Type 0
IsSchedule = Is schedule

-- a reading of sections ends at the first of these words
abbrev pub StuckSchedule : List Word → List Word → Type 0
StuckSchedule = Stuck schedule
