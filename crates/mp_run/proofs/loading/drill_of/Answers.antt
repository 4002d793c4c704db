use Rattle.std.proofs.lemmas.Result.{err_from_is_err_and}
use Rattle.mp_run.proofs.Plans.{drill_stopped, drill_made, drill_lacks}
use Rattle.mp_run.proofs.loading.drill_of.Goals as goal

pub returns-in_err-sections-clause-calls : goal.returns-in_err-sections-clause-calls
returns-in_err-sections-clause-calls g c =
    let end = err_from_is_err_and c.from_residual.result c.from_residual.ensures.1 in
    rw (end.1, end.2)
    (drill_stopped g.H.Shelf.reads c.args.shelf.now c.schedule_of.new.shelf c.args.script.now c.args.names.now c.args.schedule.now c.in-Ok.goals c.in-Ok.ensures c.in_err-sections.field-0.0 c.in_err-sections.ensures.calls)

pub returns-in-Ok-new-clause-calls : goal.returns-in-Ok-new-clause-calls
returns-in-Ok-new-clause-calls g c =
    drill_made g.H.Shelf.reads c.args.shelf.now c.schedule_of.new.shelf c.args.script.now c.args.names.now c.args.schedule.now c.in-Ok.goals c.in-Ok.ensures c.in-Ok-new.sections c.in_ok-sections.sections c.schedule_of.new.names
    c.in-Ok-new.ensures c.in_ok-sections.ensures.calls

pub returns-clause-calls : goal.returns-clause-calls
returns-clause-calls g c =
    drill_lacks g.H.Shelf.reads c.args.shelf.now c.schedule_of.new.shelf c.args.script.now c.args.names.now c.args.schedule.now c.in-Ok.goals c.in-Ok.ensures c.in_ok-sections.sections c.schedule_of.new.names c.in_ok-sections.ensures.calls
