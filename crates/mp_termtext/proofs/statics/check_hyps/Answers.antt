use Rattle.std.proofs.Common.{◌≡◌, ◌++◌, ◌∷◌, [], ◌∙◌, ap, refl, arith}
use Rattle.std.proofs.lemmas.Grind.{common_steps}
use Rattle.mp_termtext.proofs.FaultSteps.{hyps_next, names_next}
use Rattle.mp_termtext.proofs.statics.check_hyps.Goals as goal

pub loop-hyp-preserved : goal.loop-hyp-preserved
loop-hyp-preserved c =
    let hyps = c.args.hyps.now in
    let i = c.loop-hyp.hyp-index in
    let hyp = c.hyp-item.result in
    let before = c.loop-hyp.env.items in
    let after : c.push.new.self.items ≡ c.check_in.new.env.items ++ hyp.name ∷ [] = grind (arith, common_steps) in
    record {
      names = names_next hyps i hyp before c.push.new.self.items c.loop-hyp-test.true c.hyp-item.is (after ∙ ap (λ ns. ns ++ hyp.name ∷ []) c.in_ok-held.ensures.env) c.loop-hyp.invariant.names;
      found = hyps_next hyps i hyp before c.check_in.new.env.items c.push.new.self.items c.loop-hyp.held c.in_ok-held.held _ c.loop-hyp-test.true c.hyp-item.is c.in_ok-held.ensures.env after (c.in_ok-held.ensures.fault 1 refl) c.loop-hyp.invariant.found;
    }
