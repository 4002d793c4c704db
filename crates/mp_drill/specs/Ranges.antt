-- The events of a schedule.
use Rattle.std.specs.Prelude.{Bool, true, ◌&&◌, nat_le, List}
use Rattle.mp_drill.specs.declared.limits.TheConstants.{LAST_WORKER, MOST_UNITS}
use Rattle.std.specs.List.{list_all}
use Rattle.mp_drill.specs.declared.schedule.Event.{Event}
use Rattle.mp_drill.specs.declared.schedule.Event.TheVariants as event

-- an event is in its ranges: workers are 0 to 64, and those that die or are lost 1 to 64; units are 1 to 1,000,000
abbrev pub is_in_range : Event → Bool
is_in_range (event.Claim who) = nat_le who LAST_WORKER
is_in_range (event.Send who units) = nat_le who LAST_WORKER && (nat_le 1 units && nat_le units MOST_UNITS)
is_in_range (event.Again who) = nat_le who LAST_WORKER
is_in_range (event.Die who) = nat_le 1 who && nat_le who LAST_WORKER
is_in_range (event.Lose who) = nat_le 1 who && nat_le who LAST_WORKER
is_in_range event.Reissue = true

-- each event is in its ranges
abbrev pub are_in_range : List Event → Bool
are_in_range = list_all is_in_range
