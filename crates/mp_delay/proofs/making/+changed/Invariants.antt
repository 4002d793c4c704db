use Rattle.std.proofs.Common.{◌≡◌, IsTrue, drop, map, take}
use Rattle.mp_term.specs.Terms.{all_true}
use Rattle.mp_delay.specs.Moves.{moved, relevel_bound, bound_fits}
use Rattle.mp_delay.specs.Made.{AreRemade}
use Rattle.mp_delay.proofs.making.+changed.Given as goal

abbrev pub invariant-loop-i : goal.invariant-loop-i
invariant-loop-i l =
    IsTrue (all_true (map (bound_fits (moved l.moves)) (drop l.i l.kids))) ×
    AreRemade l.made (take l.i l.kids) (map (relevel_bound (moved l.moves)) (take l.i l.kids))
