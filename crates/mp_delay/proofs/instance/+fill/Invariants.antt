use Rattle.std.proofs.Common.{drop, map, take}
use Rattle.mp_delay.specs.Moves.{moved}
use Rattle.mp_delay.specs.Instances.{variables_and, put_into_bound, CanPutIntoEach}
use Rattle.mp_delay.specs.Made.{AreRemade}
use Rattle.mp_delay.proofs.instance.+fill.Given as goal

abbrev pub invariant-loop-i : goal.invariant-loop-i
invariant-loop-i l =
    let f = moved l.filling.own.now in
    let s = variables_and l.filling.moves.now l.filling.count l.filling.args.now in
    CanPutIntoEach f s l.filling.scope l.depth (drop l.i l.kids) ×
    AreRemade l.made (take l.i l.kids) (map (put_into_bound f s l.filling.scope l.depth) (take l.i l.kids))
