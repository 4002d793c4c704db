use Rattle.std.proofs.Common.{◌≡◌, ◌≤◌, drop}
use Rattle.mp_delay.specs.Moves.{moved, moved_after}
use Rattle.mp_delay.proofs.moves.wide_level.Given as goal

abbrev pub invariant-loop-step : goal.invariant-loop-step
invariant-loop-step l = (l.from ≤ l.level) × (moved_after l.from l.to (drop l.step-index l.moves) l.level ≡ moved l.moves l.level)
