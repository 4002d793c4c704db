use Rattle.std.proofs.Common.{◌≡◌, drop}
use Rattle.std.specs.List.{flat_map}
use Rattle.mp_schema.specs.Occurrences.{occurrences_in, occurrences_in_bound, first_named}
use Rattle.mp_schema.proofs.first.+first.Given as goal

abbrev pub invariant-first_in_bodies-loop-sub : goal.invariant-first_in_bodies-loop-sub
invariant-first_in_bodies-loop-sub l =
    first_named (flat_map occurrences_in_bound (drop l.sub-index l.subs)) l.name ≡ first_named (flat_map occurrences_in_bound l.subs) l.name

abbrev pub invariant-first_in_patterns-loop-p : goal.invariant-first_in_patterns-loop-p
invariant-first_in_patterns-loop-p l =
    first_named (flat_map occurrences_in (drop l.p-index l.patterns)) l.name ≡ first_named (flat_map occurrences_in l.patterns) l.name
