use Rattle.mp_strategy.proofs.Inner.{goals_good}
use Rattle.mp_eval.proofs.laws.goals_stay_good.Goals as goal

pub returns : goal.returns
returns g c = goals_good g.L.Logic.meaning c.args.problem.now (g.met.L.Logic.lawful c.args.problem.now.logic) c.known.ensures
