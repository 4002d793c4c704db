use Rattle.std.proofs.Common.{◌≡◌, ◌≤◌}
use Rattle.mp_schema.specs.Faults.{item_closed}
use Rattle.mp_schema.proofs.Befores.{before_at, Walked}
use Rattle.mp_schema.proofs.levels.is_schema_closed.Given as goal

abbrev pub invariant-loop-item : goal.invariant-loop-item
invariant-loop-item l =
    record { walked : Walked item_closed l.item-items l.item-index; named : l.named ≡ (before_at l.item-items l.item-index).named; few : l.named ≤ l.item-index }
