use Rattle.std.proofs.Common.{◌≡◌, ◌≤◌, length}
use Rattle.mp_schema.specs.Conditions.{item_between}
use Rattle.mp_schema.proofs.Befores.{before_at, Walked}
use Rattle.mp_schema.proofs.contexts.are_hypotheses_between.Given as goal

abbrev pub invariant-loop-item : goal.invariant-loop-item
invariant-loop-item l =
    record { walked : Walked item_between l.items l.item-index; counted : l.contexts ≡ length (before_at l.items l.item-index).contexts; few : l.contexts ≤ l.item-index }
