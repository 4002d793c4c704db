use Rattle.std.proofs.lemmas.List.{get_or_default}
use Rattle.mp_patterntext.proofs.FaultWalks.{dangling_next}
use Rattle.mp_patterntext.proofs.scope.check_known.Goals as goal

pub loop-ctx-preserved : goal.loop-ctx-preserved
loop-ctx-preserved c =
    let ctxs = c.args.ctxs.now in
    let i = c.loop-ctx.ctx-index in
    dangling_next c.args.known.now ctxs i _ c.loop-ctx.held c.sooner_if-held.result _ c.is_unknown-unknown.result c.loop-ctx-test.true (get_or_default ctxs i _ _ c.loop-ctx-test.true) c.is_unknown-unknown.ensures c.sooner_if-held.ensures c.loop-ctx.invariant
