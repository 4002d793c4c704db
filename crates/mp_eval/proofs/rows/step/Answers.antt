use Rattle.std.proofs.Common.{sym}
use Rattle.mp_strategy.proofs.Goods.{allowed_at}
use Rattle.mp_eval.proofs.rows.step.Goals as goal

pub step-requires-clause-allowed : goal.step-requires-clause-allowed
step-requires-clause-allowed g c =
    allowed_at (g.L.Logic.meaning c.problem.inside.logic.now).allowed c.problem.inside.justs c.args.just.0 c.in-Some.by.now c.problem.invariant.allowed (sym c.in-Some.ensures)
