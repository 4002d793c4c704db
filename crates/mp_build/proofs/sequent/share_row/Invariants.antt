use Rattle.std.proofs.Common.{◌≡◌, ◌++◌, drop}
use Rattle.mp_build.proofs.sequent.share_row.Given as goal

abbrev pub invariant-loop-t : goal.invariant-loop-t
invariant-loop-t l = l.hyps ++ drop l.t-index l.kept ≡ l.initial.hyps ++ l.kept
