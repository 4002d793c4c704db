use Rattle.std.proofs.Common.{◌≡◌, ◌++◌, [], drop, map}
use Rattle.mp_drill.specs.ScheduleStatics.{events_faults}
use Rattle.mp_drill.specs.ScheduleValues.{event_of}
use Rattle.mp_drill.proofs.value.build_events.Given as goal

abbrev pub invariant-loop-raw : goal.invariant-loop-raw
invariant-loop-raw l = record {
  faultless : events_faults (drop l.raw-index l.raws) ≡ [];
  value : l.events ++ map event_of (drop l.raw-index l.raws) ≡ map event_of l.raws;
}
