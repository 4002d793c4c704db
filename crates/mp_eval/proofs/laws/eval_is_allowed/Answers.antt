use Rattle.mp_strategy.proofs.Allowed.{eval_allowed}
use Rattle.mp_eval.proofs.laws.eval_is_allowed.Goals as goal

pub returns : goal.returns
returns g c = eval_allowed g.L.Logic.meaning c.args.problem.now c.known.ensures
