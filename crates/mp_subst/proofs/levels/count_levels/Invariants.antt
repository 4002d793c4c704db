use Rattle.std.proofs.Common.{◌≡◌, ◌+◌, length, drop}
use Rattle.mp_subst.specs.Runs.{levels_in}
use Rattle.mp_subst.proofs.levels.count_levels.Given as goal

abbrev pub invariant-loop-run : goal.invariant-loop-run
invariant-loop-run l = l.total + length (levels_in (drop l.run-index l.runs)) ≡ length (levels_in l.runs)
