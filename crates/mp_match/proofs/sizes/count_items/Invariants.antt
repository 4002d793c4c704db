use Rattle.std.proofs.Common.{◌≡◌, ◌≤◌, ◌+◌, length, drop}
use Rattle.mp_schema.specs.Conditions.{contexts_among}
use Rattle.mp_match.specs.Walks.{named_in}
use Rattle.mp_match.proofs.sizes.count_items.Given as goal

abbrev pub invariant-loop-item : goal.invariant-loop-item
invariant-loop-item l =
    (l.counts.named + named_in (drop l.item-index l.item-items) ≡ named_in l.item-items) ×
    (l.counts.contexts + length (contexts_among (drop l.item-index l.item-items)) ≡ length (contexts_among l.item-items)) ×
    (l.counts.named + l.counts.contexts ≤ l.item-index)
