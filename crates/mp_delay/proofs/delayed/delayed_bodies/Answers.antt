use Rattle.std.proofs.Common.{refl}
use Rattle.mp_delay.specs.Moves.{moved}
use Rattle.mp_delay.proofs.HeadLaws.{one_more}
use Rattle.mp_delay.proofs.delayed.delayed_bodies.Goals as goal

pub loop-kid-preserved : goal.loop-kid-preserved
loop-kid-preserved c =
    rw c.in_default.ensures.ok
    (one_more (moved c.args.moves.now) c.args.kids.now c.loop-kid.kid-index c.kid-item.result c.loop-kid-test.true c.kid-item.is c.loop-kid.bodies _
    c.loop-kid.invariant.0 c.loop-kid.invariant.1 refl (rw (c.in_ok-from_slice.ensures, c.of.ensures, c.in_ok-copy.ensures) refl))
