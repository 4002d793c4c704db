use Rattle.std.proofs.Common.{arith}
use Rattle.mp_subst.proofs.Runs.{run-count}
use Rattle.mp_subst.proofs.levels.count_levels.Goals as goal

pub overflow_add-total : goal.overflow_add-total
overflow_add-total c = let e = run-count c.args.runs.now c.loop-run.run-index c.loop-run-test.true in let all = c.loop-run.invariant in omega (arith, e, all)

pub loop-run-preserved : goal.loop-run-preserved
loop-run-preserved c = let e = run-count c.args.runs.now c.loop-run.run-index c.loop-run-test.true in let all = c.loop-run.invariant in omega (arith, e, all)
