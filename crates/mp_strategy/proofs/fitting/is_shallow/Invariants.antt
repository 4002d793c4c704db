use Rattle.std.proofs.Common.{◌-◌, length}
use Rattle.mp_strategy.proofs.Tables.{Found}
use Rattle.mp_strategy.proofs.fitting.is_shallow.Given as goal

abbrev pub invariant-loop-behind : goal.invariant-loop-behind
invariant-loop-behind l = Found l.entries (length l.entries - l.behind) l.depths
