use Rattle.std.proofs.lemmas.Result.{err_from_is_err_and}
use Rattle.mp_run.specs.Loaded.{command_seen, plan_seen}
use Rattle.mp_run.proofs.TextsRead.{theory_stops, script_stops, plan_stops, all_read}
use Rattle.mp_run.proofs.loading.load.Goals as goal

pub returns-in_err-theory-clause-calls : goal.returns-in_err-theory-clause-calls
returns-in_err-theory-clause-calls g c =
    let end = err_from_is_err_and c.from_residual.result c.from_residual.ensures.1 in
    rw (end.1, end.2)
    (theory_stops g.H.Shelf.reads (command_seen c.args.command) c.new-names.result c.new-names.ensures c.args.shelf.now c.theory_of.new.shelf c.in_err-theory.field-0.0 c.in_err-theory.ensures.calls)

pub returns-in_err-script-clause-calls : goal.returns-in_err-script-clause-calls
returns-in_err-script-clause-calls g c =
    let end = err_from_is_err_and c.from_residual-in_err-script.result c.from_residual-in_err-script.ensures.1 in
    rw (end.1, end.2)
    (script_stops g.H.Shelf.reads (command_seen c.args.command) c.new-names.result c.new-names.ensures c.args.shelf.now c.theory_of.new.shelf c.in_ok-theory.theory c.theory_of.new.names c.in_ok-theory.ensures.calls
    c.script_of.new.shelf c.in_err-script.field-0.0 c.in_err-script.ensures.calls)

pub returns-in_err-plan-clause-calls : goal.returns-in_err-plan-clause-calls
returns-in_err-plan-clause-calls g c =
    let end = err_from_is_err_and c.from_residual-in_err-plan.result c.from_residual-in_err-plan.ensures.1 in
    rw (end.1, end.2)
    (plan_stops g.H.Shelf.reads (command_seen c.args.command) c.new-names.result c.new-names.ensures c.args.shelf.now c.theory_of.new.shelf c.in_ok-theory.theory c.theory_of.new.names c.in_ok-theory.ensures.calls
    c.script_of.new.shelf c.in_ok-script.script c.script_of.new.names c.in_ok-script.ensures.calls c.plan_of.new.shelf c.in_err-plan.field-0.0 c.in_err-plan.ensures.calls)

pub returns-clause-calls : goal.returns-clause-calls
returns-clause-calls g c =
    all_read g.H.Shelf.reads (command_seen c.args.command) c.new-names.result c.new-names.ensures c.args.shelf.now c.theory_of.new.shelf c.in_ok-theory.theory c.theory_of.new.names c.in_ok-theory.ensures.calls
    c.script_of.new.shelf c.in_ok-script.script c.script_of.new.names c.in_ok-script.ensures.calls c.plan_of.new.shelf (plan_seen c.in_ok-plan.plan) c.plan_of.new.names c.in_ok-plan.ensures.calls
