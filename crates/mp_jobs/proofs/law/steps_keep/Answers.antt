use Rattle.mp_jobs.proofs.StepLaws.{steps_keep, runs_sound}
use Rattle.mp_jobs.proofs.law.steps_keep.Goals as goal

pub returns-clause-each : goal.returns-clause-each
returns-clause-each g c = steps_keep g.L.Logic.meaning c.args.problem.now (g.met.L.Logic.lawful c.args.problem.now.logic) c.known.ensures

pub returns-clause-from_start : goal.returns-clause-from_start
returns-clause-from_start g c = runs_sound g.L.Logic.meaning c.args.problem.now (g.met.L.Logic.lawful c.args.problem.now.logic) c.known.ensures
