use Rattle.mp_strategy.proofs.Alike.{same_outcomes}
use Rattle.mp_strategy.proofs.law.same_outcomes.Goals as goal

pub returns : goal.returns
returns g c = same_outcomes g.L.Logic.meaning c.args.problem.now (g.met.L.Logic.lawful c.args.problem.now.logic) c.known.ensures
