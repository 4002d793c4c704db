use Rattle.std.proofs.Common.{◌≡◌, ◌++◌, drop}
use Rattle.std.specs.List.{flat_map}
use Rattle.mp_schema.specs.Occurrences.{occurrences_in, occurrences_in_item, occurrences_in_schema, first_named}
use Rattle.mp_schema.proofs.first.first_in_schema.Given as goal

abbrev pub invariant-loop-item : goal.invariant-loop-item
invariant-loop-item l =
    first_named (flat_map occurrences_in_item (drop l.item-index l.item-items) ++ occurrences_in l.s.concl) l.name ≡ first_named (occurrences_in_schema l.s) l.name
