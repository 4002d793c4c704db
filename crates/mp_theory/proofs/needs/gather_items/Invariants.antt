use Rattle.std.proofs.Common.{map, drop}
use Rattle.mp_theory.specs.Needs.{all_uses, item_uses}
use Rattle.mp_theory.proofs.Gathered.{IsOnTheWay}
use Rattle.mp_theory.proofs.needs.gather_items.Given as goal

abbrev pub invariant-loop-item : goal.invariant-loop-item
invariant-loop-item l =
    IsOnTheWay l.fn.met l.fn.held (all_uses (map item_uses l.items)) l.met l.held (all_uses (map item_uses (drop l.item-index l.items)))
