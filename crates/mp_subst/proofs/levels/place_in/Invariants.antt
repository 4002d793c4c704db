use Rattle.std.proofs.Common.{drop}
use Rattle.mp_subst.proofs.Runs.{Left}
use Rattle.mp_subst.proofs.levels.place_in.Given as goal

abbrev pub invariant-loop-run : goal.invariant-loop-run
invariant-loop-run l = Left l.level l.runs (drop l.run-index l.runs) l.before
