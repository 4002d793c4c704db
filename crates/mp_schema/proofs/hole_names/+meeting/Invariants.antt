use Rattle.std.proofs.Common.{drop}
use Rattle.std.specs.List.{flat_map}
use Rattle.mp_schema.specs.Occurrences.{holes_in, holes_in_bound}
use Rattle.mp_schema.proofs.HoleNames.{IsOnTheWay}
use Rattle.mp_schema.proofs.hole_names.+meeting.Given as goal

abbrev pub invariant-meet_body_holes-loop-sub : goal.invariant-meet_body_holes-loop-sub
invariant-meet_body_holes-loop-sub l =
    IsOnTheWay l.fn.met (flat_map holes_in_bound l.subs) l.met (flat_map holes_in_bound (drop l.sub-index l.subs))

abbrev pub invariant-meet_argument_holes-loop-arg : goal.invariant-meet_argument_holes-loop-arg
invariant-meet_argument_holes-loop-arg l =
    IsOnTheWay l.fn.met (flat_map holes_in l.args) l.met (flat_map holes_in (drop l.arg-index l.args))
