use Rattle.std.proofs.Common.{◌≡◌, drop}
use Rattle.mp_schema.specs.Conditions.{has_all, contexts_among}
use Rattle.mp_schema.proofs.contexts.has_contexts_of.Given as goal

abbrev pub invariant-loop-item : goal.invariant-loop-item
invariant-loop-item l = has_all (contexts_among l.concl.items) (contexts_among (drop l.item-index l.item-items)) ≡ has_all (contexts_among l.concl.items) (contexts_among l.item-items)
