use Rattle.mp_strategy.proofs.Inner.{goals_good}
use Rattle.mp_core.proofs.Soundness.{step_keeps, step_shape, step_yield}
use Rattle.mp_core.proofs.law.every_call_keeps_sound.Goals as goal

pub returns : goal.returns
returns g c = record {
  sound = λ s e new honest step sound. step_keeps _ s e new honest step sound;
  shape = step_shape g.L.Logic.meaning c.args.problem.now (λ w o fits gives. goals_good g.L.Logic.meaning c.args.problem.now (g.met.L.Logic.lawful c.args.problem.now.logic) c.known.ensures w o fits.good gives);
  yields_no_more = λ s e new honest step. step_yield _ s e new honest step;
}
