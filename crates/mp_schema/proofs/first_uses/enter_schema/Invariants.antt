use Rattle.std.proofs.Common.{drop}
use Rattle.std.specs.List.{flat_map}
use Rattle.mp_schema.specs.Occurrences.{occurrences_in_item}
use Rattle.mp_schema.proofs.Entering.{IsOnTheWay}
use Rattle.mp_schema.proofs.first_uses.enter_schema.Given as goal

abbrev pub invariant-loop-item : goal.invariant-loop-item
invariant-loop-item l =
    IsOnTheWay l.fn.uses (flat_map occurrences_in_item l.item-items) l.uses (flat_map occurrences_in_item (drop l.item-index l.item-items))
