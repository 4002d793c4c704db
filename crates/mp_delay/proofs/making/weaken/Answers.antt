use Rattle.std.proofs.Common.{arith}
use Rattle.mp_term.proofs.WeakLaws.{weak-none}
use Rattle.mp_delay.proofs.DelayLaws.{widest-ge, weak_fits}
use Rattle.mp_delay.proofs.FitLaws.{fit-moved}
use Rattle.mp_delay.proofs.MoveLaws.{weak-moves}
use Rattle.mp_delay.proofs.making.weaken.Goals as goal

pub returns-then-k-eq0 : goal.returns-then-k-eq0
returns-then-k-eq0 c = rw (c.if-k-eq0.true, weak-none) c.copy.ensures

pub overflow_add-up : goal.overflow_add-up
overflow_add-up c = omega (arith, widest-ge c.args.t.now c.args.n)

pub make-requires : goal.make-requires
make-requires c = rw fit-moved (weak_fits c.args.n c.args.k c.args.t.now c.requires.scoped c.requires.narrow)

pub returns : goal.returns
returns c = rw weak-moves c.make.ensures
