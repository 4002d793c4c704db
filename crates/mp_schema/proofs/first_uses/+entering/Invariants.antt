use Rattle.std.proofs.Common.{drop}
use Rattle.std.specs.List.{flat_map}
use Rattle.mp_schema.specs.Occurrences.{occurrences_in, occurrences_in_bound}
use Rattle.mp_schema.proofs.Entering.{IsOnTheWay}
use Rattle.mp_schema.proofs.first_uses.+entering.Given as goal

abbrev pub invariant-enter_bodies-loop-sub : goal.invariant-enter_bodies-loop-sub
invariant-enter_bodies-loop-sub l =
    IsOnTheWay l.fn.uses (flat_map occurrences_in_bound l.subs) l.uses (flat_map occurrences_in_bound (drop l.sub-index l.subs))

abbrev pub invariant-enter_patterns-loop-p : goal.invariant-enter_patterns-loop-p
invariant-enter_patterns-loop-p l =
    IsOnTheWay l.fn.uses (flat_map occurrences_in l.patterns) l.uses (flat_map occurrences_in (drop l.p-index l.patterns))
