use Rattle.mp_jobs.proofs.LiveLaws.{settled_live}
use Rattle.mp_jobs.proofs.law.settled_is_live.Goals as goal

pub returns : goal.returns
returns g c = settled_live g.L.Logic.meaning c.args.problem.now
