use Rattle.std.proofs.Common.{◌≡◌, drop}
use Rattle.std.specs.List.{flat_map}
use Rattle.mp_words.specs.Faults.{least, least_from}
use Rattle.mp_drill.specs.ScheduleStatics.{schedule_faults, section_faults}
use Rattle.mp_drill.proofs.statics.schedule_fault.Given as goal

abbrev pub invariant-loop-raw : goal.invariant-loop-raw
invariant-loop-raw l = least_from l.held (flat_map (section_faults l.goals) (drop l.raw-index l.raw-items)) ≡ least (schedule_faults l.goals l.raws)
