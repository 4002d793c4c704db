use Rattle.std.proofs.Common.{arith}
use Rattle.mp_delay.proofs.DelayLaws.{widest-ge, weak_fits}
use Rattle.mp_delay.proofs.delayed.Delayed.weakened.Goals as goal

pub overflow_add-up : goal.overflow_add-up
overflow_add-up c = omega (arith, widest-ge c.args.self.now c.args.n)

pub moved_by-requires-clause-fits : goal.moved_by-requires-clause-fits
moved_by-requires-clause-fits c = weak_fits c.args.n c.args.k c.args.self.now c.requires.scoped c.requires.narrow
