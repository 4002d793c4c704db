use Rattle.mp_jobs.proofs.Weights.{weighs_only}
use Rattle.mp_jobs.proofs.law.only_done_is_weightless.Goals as goal

pub returns : goal.returns
returns g c = weighs_only g.L.Logic.meaning c.args.problem.now
