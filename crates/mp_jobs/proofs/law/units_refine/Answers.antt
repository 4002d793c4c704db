use Rattle.std.proofs.Common.{zero, suc, arith}
use Rattle.mp_jobs.proofs.UnitMoves.{units_fit}
use Rattle.mp_jobs.specs.Laws.{UnitsRefine}
use Rattle.mp_jobs.proofs.law.units_refine.Goals as goal

pub returns : goal.returns
returns g c = by where
  by : UnitsRefine g.L.Logic.meaning c.args.problem.now
  by work zero ok le = absurd (omega (arith, le))
  by work (suc k) ok le = units_fit g.L.Logic.meaning c.args.problem.now (g.met.L.Logic.lawful c.args.problem.now.logic) c.known.ensures work k ok
