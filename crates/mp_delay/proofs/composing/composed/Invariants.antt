use Rattle.std.proofs.Common.{◌≡◌, ◌++◌, drop}
use Rattle.mp_delay.specs.Composing.{composed_after, composed}
use Rattle.mp_delay.proofs.composing.composed.Given as goal

abbrev pub invariant-loop-step : goal.invariant-loop-step
invariant-loop-step l = l.moves ++ composed_after l.last.from l.last.to (drop l.step-index l.first) l.second ≡ composed l.first l.second
