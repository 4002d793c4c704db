use Rattle.std.proofs.Common.{◌≡◌, drop}
use Rattle.std.specs.List.{list_all}
use Rattle.mp_schema.specs.Limits.{few_of_item}
use Rattle.mp_schema.proofs.measures.is_few.Given as goal

abbrev pub invariant-loop-item : goal.invariant-loop-item
invariant-loop-item l = list_all few_of_item (drop l.item-index l.item-items) ≡ list_all few_of_item l.item-items
