use Rattle.std.proofs.Common.{ap, ◌∙◌}
use Rattle.mp_words.specs.Faults.{least_from}
use Rattle.mp_words.proofs.FaultParts.{flat_next}
use Rattle.mp_steptext.specs.Statics.{given_faults, need_faults}
use Rattle.mp_steptext.proofs.statics.check_given.Goals as goal

pub loop-raw-preserved : goal.loop-raw-preserved
loop-raw-preserved g c =
    let raw = c.raw-item.result in
    flat_next (given_faults g.B.Body.arity g.B.Body.faults c.args.needs.now) c.args.given.now c.loop-raw.raw-index raw c.loop-raw.held c.check_need-held.result _ c.loop-raw-test.true c.raw-item.is
    (c.check_need-held.ensures ∙ ap (λ need. least_from c.loop-raw.held (need_faults g.B.Body.arity g.B.Body.faults need raw)) c.find_need.ensures) c.loop-raw.invariant
