use Rattle.mp_strategy.proofs.Inner.{inner_good}
use Rattle.mp_eval.proofs.laws.inner_goals_are_good.Goals as goal

pub returns : goal.returns
returns g c = inner_good (g.L.Logic.meaning c.args.problem.now.logic) (g.met.L.Logic.lawful c.args.problem.now.logic) c.args.problem.now.justs c.known.ensures.allowed
