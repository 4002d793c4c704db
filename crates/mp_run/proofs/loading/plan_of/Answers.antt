use Rattle.mp_run.proofs.loading.plan_of.Goals as goal

pub returns-in-Drill-clause-ready : goal.returns-in-Drill-clause-ready
returns-in-Drill-clause-ready g c = c.drill_of.ensures.ready c.args.theory.now
