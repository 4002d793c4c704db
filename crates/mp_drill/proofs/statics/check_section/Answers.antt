use Rattle.std.proofs.Common.{ap, ◌∙◌}
use Rattle.mp_words.specs.Faults.{least_from}
use Rattle.mp_words.proofs.FaultParts.{two_parts}
use Rattle.mp_drill.specs.ScheduleStatics.{events_faults, goal_faults}
use Rattle.mp_drill.proofs.statics.check_section.Goals as goal

pub returns : goal.returns
returns c goals met =
    let s = c.args.raw.now in
    two_parts c.args.held c.check_goal-held.result c.check_events.result (goal_faults goals s.goal) (events_faults s.events) (c.check_goal-held.ensures goals met)
    (c.check_events.ensures ∙ ap (λ es. least_from c.check_goal-held.result (events_faults es)) c.as_slice.ensures)
