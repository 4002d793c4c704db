use Rattle.std.proofs.Common.{arith}
use Rattle.mp_subst.proofs.Runs.{run-count, Left-here, Left-next}
use Rattle.mp_subst.proofs.levels.place_in.Goals.{else-run-level-via-then-run-level+else-level-run, else-run-level-via-else-run-level}
use Rattle.mp_subst.proofs.levels.place_in.Goals as goal

pub overflow_add-place : goal.overflow_add-place
overflow_add-place c =
    let e = run-count c.args.runs.now c.loop-run.run-index c.loop-run-test.true in
    let all = c.loop-run.invariant.count in omega (arith, e, all)

pub overflow_cast-place : goal.overflow_cast-place
overflow_cast-place c =
    let e = run-count c.args.runs.now c.loop-run.run-index c.loop-run-test.true in
    let all = c.loop-run.invariant.count in omega (arith, e, all)

pub overflow_cast-result : goal.overflow_cast-result
overflow_cast-result c =
    let e = run-count c.args.runs.now c.loop-run.run-index c.loop-run-test.true in
    let all = c.loop-run.invariant.count in omega (arith, e, all)

pub returns-then-level-run : goal.returns-then-level-run
returns-then-level-run c =
    Left-here c.args.level c.args.runs.now c.loop-run.run-index c.loop-run.before c.loop-run-test.true c.loop-run.invariant c.if-run-level.true c.if-level-run.true

pub overflow_add-before : goal.overflow_add-before
overflow_add-before c =
    let e = run-count c.args.runs.now c.loop-run.run-index c.loop-run-test.true in
    let all = c.loop-run.invariant.count in omega (arith, e, all)

pub loop-run-preserved : goal.loop-run-preserved
loop-run-preserved c =
    Left-next c.args.level c.args.runs.now c.loop-run.run-index c.loop-run.before c.loop-run-test.true c.loop-run.invariant (elim c.else-run-level.branch [
      | else-run-level-via-then-run-level+else-level-run w ↦ λ _. let e = w.if-level-run.false in omega (arith, e)
      | else-run-level-via-else-run-level w ↦ λ h. let e = w.if-run-level.false in absurd (omega (arith, e))
    ])
