use Rattle.mp_jobs.proofs.SettleRuns.{settled_ends}
use Rattle.mp_jobs.proofs.law.settled_is_settled.Goals as goal

pub returns : goal.returns
returns g c = settled_ends g.L.Logic.meaning c.args.problem.now (g.met.L.Logic.lawful c.args.problem.now.logic) c.known.ensures
