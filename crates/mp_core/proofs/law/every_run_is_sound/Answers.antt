use Rattle.mp_strategy.proofs.Inner.{goals_good}
use Rattle.mp_core.proofs.Soundness.{runs_stay_sound, runs_keep_shape, runs_answer_truly}
use Rattle.mp_core.proofs.law.every_run_is_sound.Goals as goal

pub returns-clause-sound : goal.returns-clause-sound
returns-clause-sound g c = runs_stay_sound _ c.args.work.now

pub returns-clause-shape : goal.returns-clause-shape
returns-clause-shape g c =
    runs_keep_shape g.L.Logic.meaning c.args.problem.now (λ w o fits gives. goals_good g.L.Logic.meaning c.args.problem.now (g.met.L.Logic.lawful c.args.problem.now.logic) c.known.ensures w o fits.good gives)
    c.args.work.now c.requires.work

pub returns-clause-answer : goal.returns-clause-answer
returns-clause-answer g c = runs_answer_truly _ c.args.work.now
