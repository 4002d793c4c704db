use Rattle.std.proofs.Common.{◌≡◌, ◌++◌, drop}
use Rattle.mp_delay.specs.Composing.{tidy_after, tidied}
use Rattle.mp_delay.proofs.tidying.tidy.Given as goal

abbrev pub invariant-loop-i : goal.invariant-loop-i
invariant-loop-i l = l.tidy ++ tidy_after l.last.from l.last.to (drop l.i l.moves) ≡ tidied l.moves
