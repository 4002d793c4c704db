use Rattle.mp_jobs.proofs.Monotone.{monotone}
use Rattle.mp_jobs.proofs.law.yields_are_monotone.Goals as goal

pub returns : goal.returns
returns g c = monotone g.L.Logic.meaning c.args.problem.now
