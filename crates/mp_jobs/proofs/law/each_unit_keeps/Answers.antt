use Rattle.mp_jobs.proofs.UnitMoves.{first_settles, first_expands}
use Rattle.mp_jobs.proofs.law.each_unit_keeps.Goals as goal

pub returns-clause-expansion : goal.returns-clause-expansion
returns-clause-expansion g c = λ old new h e. (first_expands g.L.Logic.meaning c.args.problem.now (g.met.L.Logic.lawful c.args.problem.now.logic) c.known.ensures old new e).kept h

pub returns-clause-settlement : goal.returns-clause-settlement
returns-clause-settlement g c = λ old new h e. (first_settles g.L.Logic.meaning c.args.problem.now (g.met.L.Logic.lawful c.args.problem.now.logic) c.known.ensures old new e).kept h
