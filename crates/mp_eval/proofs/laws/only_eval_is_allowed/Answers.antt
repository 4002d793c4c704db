use Rattle.mp_strategy.proofs.Only.{only_in}
use Rattle.mp_eval.proofs.laws.only_eval_is_allowed.Goals as goal

pub returns : goal.returns
returns g c = λ work o clear gives.
    only_in (g.L.Logic.meaning c.args.problem.now.logic) c.args.problem.now.justs 0 c.args.problem.now.tacs work.tac.0 work.left clear work.fuel work.goal o gives
