use Rattle.std.proofs.Common.{◌≡◌, ◌++◌, drop}
use Rattle.mp_delay.specs.Composing.{within, run}
use Rattle.mp_delay.proofs.composing.push_run.Given as goal

abbrev pub invariant-loop-next : goal.invariant-loop-next
invariant-loop-next l =
    l.moves ++ within l.step.from l.step.to l.end (drop l.next-index l.second) ≡ l.fn.moves ++ run l.step.from l.step.to l.end l.second
