use Rattle.std.proofs.Common.{◌≡◌, ◌+◌, ◌≤◌, drop, length}
use Rattle.mp_schema.specs.Conditions.{contexts_among}
use Rattle.mp_schema.proofs.contexts.count_contexts.Given as goal

abbrev pub invariant-loop-item : goal.invariant-loop-item
invariant-loop-item l =
    record { counted : l.contexts + length (contexts_among (drop l.item-index l.items)) ≡ length (contexts_among l.items); few : l.contexts ≤ l.item-index }
