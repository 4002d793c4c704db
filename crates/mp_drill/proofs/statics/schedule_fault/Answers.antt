use Rattle.std.proofs.Common.{None, refl, ap, ◌∙◌}
use Rattle.std.specs.List.{flat_map}
use Rattle.mp_words.specs.declared.fail.TextWhy.TheVariants as why
use Rattle.mp_words.specs.Faults.{least_from}
use Rattle.mp_words.specs.Seconds.{second_faults}
use Rattle.mp_words.proofs.FaultParts.{flat_next, two_parts}
use Rattle.mp_drill.specs.declared.raw.RawSection.{RawSection}
use Rattle.mp_drill.specs.ScheduleStatics.{section_faults}
use Rattle.mp_drill.proofs.statics.schedule_fault.Goals as goal

pub loop-raw-init : goal.loop-raw-init
loop-raw-init c =
    let goals = c.args.goals.now in
    let ss = c.args.raws.now in
    let seconds = second_faults (λ (s : RawSection). s.goal) why.Taken in
    let held = c.in_ok-held.ensures ∙ ap (λ xs. least_from None (seconds xs)) c.as_slice.ensures in
    ap (λ xs. least_from c.in_ok-held.held (flat_map (section_faults goals) xs)) c.as_slice-raw-items.ensures ∙ two_parts None c.in_ok-held.held _ (seconds ss) (flat_map (section_faults goals) ss) held refl

pub loop-raw-preserved : goal.loop-raw-preserved
loop-raw-preserved c =
    let goals = c.args.goals.now in
    flat_next (section_faults goals) c.as_slice-raw-items.result.now c.loop-raw.raw-index c.raw-item.result c.loop-raw.held c.check_section-held.result _ c.loop-raw-test.true c.raw-item.is (c.check_section-held.ensures goals c.in_ok-names.ensures) c.loop-raw.invariant
