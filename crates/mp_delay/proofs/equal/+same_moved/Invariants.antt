use Rattle.std.proofs.Common.{◌≡◌, drop, length}
use Rattle.mp_delay.specs.Moves.{moved}
use Rattle.mp_delay.proofs.EqualLaws.{same_bodies}
use Rattle.mp_delay.proofs.equal.+same_moved.Given as goal

abbrev pub invariant-loop-i : goal.invariant-loop-i
invariant-loop-i l =
    same_bodies (moved l.first) (moved l.second) (drop l.i l.left) (drop l.i l.right) ≡ same_bodies (moved l.first) (moved l.second) l.left l.right
