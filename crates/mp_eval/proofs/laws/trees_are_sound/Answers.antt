use Rattle.mp_strategy.proofs.Sound.{sound_in}
use Rattle.mp_eval.proofs.laws.trees_are_sound.Goals as goal

pub returns : goal.returns
returns g c = λ work o gives.
    sound_in (g.L.Logic.meaning c.args.problem.now.logic) c.args.problem.now.justs 0 c.args.problem.now.tacs work.tac.0 work.left work.fuel work.goal o gives
