use Rattle.mp_words.specs.Faults.{least_from}
use Rattle.mp_words.specs.Seconds.{second_faults}
use Rattle.mp_words.proofs.Seconds.{SecondsLeft}
use Rattle.mp_words.proofs.second.check_second.Given as goal

abbrev pub invariant-loop-item : goal.invariant-loop-item
invariant-loop-item g l = SecondsLeft g.X.Named.named l.why l.items (l.held) (least_from l.fn.held (second_faults g.X.Named.named l.why l.items)) l.seen l.item-index
