-- Where no static rule of a schedule is broken, its events are in range.
use Rattle.std.proofs.Common.{◌≡◌, ◌++◌, List, [], ◌∷◌, map, Option, None, Some, true, ◌&&◌, nat_le, refl, ap, ◌∙◌}
use Rattle.std.specs.Prelude.{nat_abs}
use Rattle.std.specs.List.{flat_map}
use Rattle.std.proofs.lemmas.Bool.{and_parts, and_from}
use Rattle.mp_logic.specs.declared.sym.Sym.{Sym}
use Rattle.mp_words.specs.declared.raw.RawNumber.{RawNumber}
use Rattle.mp_words.specs.declared.fail.TextWhy.TheVariants as why
use Rattle.mp_words.specs.Ranges.{number_faults}
use Rattle.mp_words.specs.Seconds.{second_faults}
use Rattle.mp_words.proofs.NoFaults.{nil_parts, number_between}
use Rattle.mp_drill.specs.declared.raw.RawEvent.{RawEvent}
use Rattle.mp_drill.specs.declared.raw.RawEvent.TheVariants as event
use Rattle.mp_drill.specs.declared.raw.RawSection.{RawSection}
use Rattle.mp_drill.specs.Ranges.{is_in_range, are_in_range}
use Rattle.mp_drill.specs.ScheduleStatics.{units_faults, event_faults, events_faults, goal_faults, schedule_faults, section_faults}
use Rattle.mp_drill.specs.ScheduleValues.{units_of, event_of, schedule_of, EachInRange}

worker_in_range : (n : RawNumber) → number_faults 0 64 n ≡ [] → nat_le (nat_abs n.value) 64 ≡ true
worker_in_range n h = (and_parts _ _ (number_between 0 64 n h)).1

units_in_range : (units : Option RawNumber) → units_faults units ≡ [] → (nat_le 1 (units_of units) && nat_le (units_of units) 1000000) ≡ true
units_in_range None h = refl
units_in_range (Some units) h = number_between 1 1000000 units h

event_in_range : (e : RawEvent) → event_faults e ≡ [] → is_in_range (event_of e) ≡ true
event_in_range (event.Claim who) h = worker_in_range who h
event_in_range (event.Send who units) h =
    let both = nil_parts (number_faults 0 64 who) (units_faults units) h in and_from _ _ (worker_in_range who both.0) (units_in_range units both.1)
event_in_range (event.Again who) h = worker_in_range who h
event_in_range (event.Die who) h = number_between 1 64 who h
event_in_range (event.Lose who) h = number_between 1 64 who h
event_in_range event.Reissue h = refl

events_in_range : (es : List RawEvent) → events_faults es ≡ [] → are_in_range (map event_of es) ≡ true
events_in_range [] h = refl
events_in_range (e ∷ es) h = let both = nil_parts (event_faults e) (events_faults es) h in and_from _ _ (event_in_range e both.0) (events_in_range es both.1)

-- the parts of what has no fault have none
module _ (goals : List Sym) where
  each_faultless : (ss : List RawSection) → flat_map (section_faults goals) ss ≡ [] → flat_map (λ s. events_faults s.events) ss ≡ []
  each_faultless [] h = refl
  each_faultless (s ∷ ss) h =
      let both = nil_parts (section_faults goals s) (flat_map (section_faults goals) ss) h in
      ap (λ fs. fs ++ flat_map (λ x. events_faults x.events) ss) (nil_parts (goal_faults goals s.goal) (events_faults s.events) both.0).1 ∙ each_faultless ss both.1

  pub no_event_fault : (ss : List RawSection) → schedule_faults goals ss ≡ [] → flat_map (λ s. events_faults s.events) ss ≡ []
  no_event_fault ss h = each_faultless ss (nil_parts (second_faults (λ (s : RawSection). s.goal) why.Taken ss) (flat_map (section_faults goals) ss) h).1

each_in_range : (ss : List RawSection) → flat_map (λ s. events_faults s.events) ss ≡ [] → EachInRange (schedule_of ss)
each_in_range [] h = tt
each_in_range (s ∷ ss) h =
    let both = nil_parts (events_faults s.events) (flat_map (λ x. events_faults x.events) ss) h in (events_in_range s.events both.0, each_in_range ss both.1)

pub sections_in_range : (goals : List Sym) (ss : List RawSection) → schedule_faults goals ss ≡ [] → EachInRange (schedule_of ss)
sections_in_range goals ss h = each_in_range ss (no_event_fault goals ss h)
