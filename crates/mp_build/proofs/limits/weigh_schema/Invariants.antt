use Rattle.std.proofs.Common.{◌≡◌, ◌+◌, ◌≤◌, drop, map, max, sum}
use Rattle.mp_logic.specs.Lists.{greatest}
use Rattle.mp_schema.specs.Values.{instance_of}
use Rattle.mp_build.specs.Rooms.{items_room, IsNarrowSomewhere}
use Rattle.mp_build.specs.Sizes.{item_size, item_depth}
use Rattle.mp_build.proofs.limits.weigh_schema.Given as goal

abbrev pub invariant-loop-item : goal.invariant-loop-item
invariant-loop-item l =
    let v = instance_of l.inst in
    let items = l.schema.items in
    let left = drop l.item-index items in
    (l.total.size ≤ 20000) ×
    (l.total.depth ≤ 200) ×
    (l.total.size + sum (map (item_size v) left) ≡ sum (map (item_size v) items)) ×
    (max l.total.depth (greatest (map (item_depth v) left)) ≡ greatest (map (item_depth v) items)) ×
    IsNarrowSomewhere (items_room v left l.schema.concl)
