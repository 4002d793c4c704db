use Rattle.mp_delay.proofs.DelayLaws.{none_fits}
use Rattle.mp_delay.proofs.FitLaws.{fit-scoped}
use Rattle.mp_delay.proofs.MoveLaws.{relevel-none}
use Rattle.mp_delay.proofs.delayed.Delayed.of.Goals as goal

pub invariant_of-result : goal.invariant_of-result
invariant_of-result c = rw (c.new.ensures, c.of.ensures, none_fits) (fit-scoped c.args.t c.args.scope c.requires.scoped c.requires.narrow)

pub returns : goal.returns
returns c = rw (c.new.ensures, c.of.ensures) (relevel-none c.args.t)
