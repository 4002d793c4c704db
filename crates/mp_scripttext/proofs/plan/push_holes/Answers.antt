use Rattle.mp_scripttext.proofs.PlanSteps.{more_holes}
use Rattle.mp_scripttext.proofs.plan.push_holes.Goals as goal

pub loop-preserved : goal.loop-preserved
loop-preserved c = more_holes c.args.plan.now c.loop.plan c.push_row.new.plan c.loop.counter c.loop.invariant c.in_ok-push_row.ensures
