use Rattle.std.proofs.Common.{◌≡◌, ◌++◌, ◌+◌, ◌<◌, ℕ, List, [], ◌∷◌, length, map, drop, get_or, append_assoc, ap, sym, ◌∙◌}
use Rattle.std.specs.List.{flat_map}
use Rattle.mp_words.proofs.NoFaults.{nil_parts}
use Rattle.mp_words.proofs.Walks.{left_cons}
use Rattle.mp_drill.specs.declared.raw.RawSection.{RawSection}
use Rattle.mp_drill.specs.declared.schedule.Section.{Section}
use Rattle.mp_drill.specs.ScheduleStatics.{events_faults}
use Rattle.mp_drill.specs.ScheduleValues.{event_of, section_of, schedule_of}
use Rattle.mp_drill.proofs.value.build_schedule.Goals as goal

module _ (ss : List RawSection) (i : ℕ) (s : RawSection) (lt : i < length ss) (is : s ≡ get_or ss i s) where
  -- the section here has no fault, and the others have none
  faultless_parts : flat_map (λ x. events_faults x.events) (drop i ss) ≡ [] → (events_faults s.events ≡ []) × (flat_map (λ x. events_faults x.events) (drop (i + 1) ss) ≡ [])
  faultless_parts h =
      nil_parts (events_faults s.events) (flat_map (λ x. events_faults x.events) (drop (i + 1) ss)) (ap (flat_map (λ x. events_faults x.events)) (sym (left_cons ss i s lt is)) ∙ h)

  next_made : (made after whole : List Section) (one : Section) → after ≡ made ++ one ∷ [] → one ≡ section_of s → made ++ schedule_of (drop i ss) ≡ whole → after ++ schedule_of (drop (i + 1) ss) ≡ whole
  next_made made after whole one e f prev =
      let rest = schedule_of (drop (i + 1) ss) in
      ap (λ m. m ++ rest) e ∙ append_assoc made (one ∷ []) rest ∙ ap (λ x. made ++ x ∷ rest) f ∙ ap (λ ys. made ++ schedule_of ys) (sym (left_cons ss i s lt is)) ∙ prev

pub build_events-requires : goal.build_events-requires
build_events-requires c =
    ap events_faults c.as_slice.ensures ∙ (faultless_parts c.as_slice-raw-items.result.now c.loop-raw.raw-index c.raw-item.result c.loop-raw-test.true c.raw-item.is c.loop-raw.invariant.faultless).0

pub loop-raw-preserved : goal.loop-raw-preserved
loop-raw-preserved c =
    let ss = c.as_slice-raw-items.result.now in
    let i = c.loop-raw.raw-index in
    let s = c.raw-item.result in
    let events = c.in_ok-events.ensures ∙ ap (map event_of) c.as_slice.ensures in
    record {
      faultless = (faultless_parts ss i s c.loop-raw-test.true c.raw-item.is c.loop-raw.invariant.faultless).1;
      value = next_made ss i s c.loop-raw-test.true c.raw-item.is c.loop-raw.sections c.push.new.self _ _ c.in-Ok.ensures.ok (λ j. record { goal = s.goal.name; events = events j }) c.loop-raw.invariant.value;
    }
