use Rattle.std.proofs.Common.{◌≡◌, ◌++◌, [], drop}
use Rattle.std.specs.List.{flat_map}
use Rattle.mp_drill.specs.ScheduleStatics.{events_faults}
use Rattle.mp_drill.specs.ScheduleValues.{schedule_of}
use Rattle.mp_drill.proofs.value.build_schedule.Given as goal

abbrev pub invariant-loop-raw : goal.invariant-loop-raw
invariant-loop-raw l = record {
  faultless : flat_map (λ s. events_faults s.events) (drop l.raw-index l.raw-items) ≡ [];
  value : l.sections ++ schedule_of (drop l.raw-index l.raw-items) ≡ schedule_of l.raws;
}
