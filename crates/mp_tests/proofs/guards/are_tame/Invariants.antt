use Rattle.std.proofs.Common.{ℕ, ◌<◌, get_or}
use Rattle.mp_build.specs.Laws.{IsTameTerm}
use Rattle.mp_tests.proofs.guards.are_tame.Given as goal

abbrev pub invariant-loop-place : goal.invariant-loop-place
invariant-loop-place l = (k : ℕ) (d : _) → k < l.place → IsTameTerm (get_or l.metas k d).body
