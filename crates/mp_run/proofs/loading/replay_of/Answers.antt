use Rattle.std.proofs.lemmas.Result.{err_from_is_err_and}
use Rattle.mp_run.proofs.Plans.{replay_stopped, replay_made}
use Rattle.mp_run.proofs.loading.replay_of.Goals as goal

pub returns-in_err-blocks-clause-calls : goal.returns-in_err-blocks-clause-calls
returns-in_err-blocks-clause-calls g c =
    let end = err_from_is_err_and c.from_residual.result c.from_residual.ensures.1 in
    rw (end.1, end.2)
    (replay_stopped g.H.Shelf.reads c.args.shelf.now c.trees_of.new.shelf c.args.theory.now c.args.script.now c.args.names.now c.args.trees.now c.in-Ok.goals c.in-Ok.ensures c.in_err-blocks.field-0.0 c.in_err-blocks.ensures.calls)

pub returns-clause-calls : goal.returns-clause-calls
returns-clause-calls g c =
    replay_made g.H.Shelf.reads c.args.shelf.now c.trees_of.new.shelf c.args.theory.now c.args.script.now c.args.names.now c.args.trees.now c.in-Ok.goals c.in-Ok.ensures c.in_ok-blocks.blocks c.trees_of.new.names c.in_ok-blocks.ensures.calls
