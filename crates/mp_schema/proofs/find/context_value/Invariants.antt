use Rattle.std.proofs.Common.{◌≡◌, drop}
use Rattle.mp_schema.specs.Values.{find_ctx}
use Rattle.mp_schema.proofs.find.context_value.Given as goal

abbrev pub invariant-loop-item : goal.invariant-loop-item
invariant-loop-item l = find_ctx (drop l.item-index l.item-items) l.name ≡ find_ctx l.item-items l.name
