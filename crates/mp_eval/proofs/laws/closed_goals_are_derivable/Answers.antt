use Rattle.mp_strategy.proofs.Inner.{closed_derivable}
use Rattle.mp_eval.proofs.laws.closed_goals_are_derivable.Goals as goal

pub returns : goal.returns
returns g c = closed_derivable g.L.Logic.meaning c.args.problem.now (g.met.L.Logic.lawful c.args.problem.now.logic) c.known.ensures
