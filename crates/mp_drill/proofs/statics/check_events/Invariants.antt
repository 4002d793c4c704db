use Rattle.std.proofs.Common.{◌≡◌, drop}
use Rattle.mp_words.specs.Faults.{least_from}
use Rattle.mp_drill.specs.ScheduleStatics.{events_faults}
use Rattle.mp_drill.proofs.statics.check_events.Given as goal

abbrev pub invariant-loop-raw : goal.invariant-loop-raw
invariant-loop-raw l = least_from l.held (events_faults (drop l.raw-index l.raws)) ≡ least_from l.fn.held (events_faults l.raws)
