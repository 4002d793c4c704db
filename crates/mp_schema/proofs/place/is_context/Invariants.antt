use Rattle.std.proofs.Common.{◌≡◌, drop}
use Rattle.mp_schema.specs.Conditions.{has, contexts_among}
use Rattle.mp_schema.proofs.place.is_context.Given as goal

abbrev pub invariant-loop-item : goal.invariant-loop-item
invariant-loop-item l = has (contexts_among (drop l.item-index l.items)) l.name ≡ has (contexts_among l.items) l.name
