use Rattle.std.proofs.Common.{◌≡◌, ◌+◌, ◌++◌, ◌∷◌, [], ap, ◌∙◌, arith, drop}
use Rattle.std.proofs.lemmas.Grind.{common_steps}
use Rattle.mp_termtext.specs.Statics.{hyps_faults}
use Rattle.mp_termtext.proofs.Faultless.{first_hyp_faultless}
use Rattle.mp_termtext.proofs.FaultSteps.{names_next}
use Rattle.mp_termtext.proofs.ValueSteps.{hyp_values_next}
use Rattle.mp_termtext.proofs.value.build_hyps.Goals as goal

pub build_term-requires-clause-faultless : goal.build_term-requires-clause-faultless
build_term-requires-clause-faultless c =
    let both = first_hyp_faultless c.args.hyps.now c.loop-hyp.hyp-index c.hyp-item.result c.loop-hyp.env.items c.loop-hyp-test.true c.hyp-item.is c.loop-hyp.invariant.faultless in
    let few = c.requires.few in
    let count = c.loop-hyp.invariant.count in
    let below = c.loop-hyp-test.true in
    (1, both.0, omega (arith, few, count, below))

pub loop-hyp-preserved : goal.loop-hyp-preserved
loop-hyp-preserved c =
    let hyps = c.args.hyps.now in
    let i = c.loop-hyp.hyp-index in
    let hyp = c.hyp-item.result in
    let before = c.loop-hyp.env.items in
    let after : c.push-in-loop-hyp.new.self.items ≡ c.build_term.new.env.items ++ hyp.name ∷ [] = grind (arith, common_steps) in
    let grown = after ∙ ap (λ ns. ns ++ hyp.name ∷ []) c.in_ok-term.ensures.env in
    let both = first_hyp_faultless hyps i hyp before c.loop-hyp-test.true c.hyp-item.is c.loop-hyp.invariant.faultless in
    record {
      faultless = ap (hyps_faults (drop (i + 1) hyps)) grown ∙ both.1;
      count = grind (arith, common_steps);
      names = names_next hyps i hyp before c.push-in-loop-hyp.new.self.items c.loop-hyp-test.true c.hyp-item.is grown c.loop-hyp.invariant.names;
      built = hyp_values_next hyps i hyp c.in_ok-term.term c.loop-hyp.built c.push.new.self _ before c.build_term.new.env.items c.push-in-loop-hyp.new.self.items c.loop-hyp-test.true c.hyp-item.is c.in_ok-term.ensures.env after c.in_ok-term.ensures.value c.in_default.ensures.ok c.loop-hyp.invariant.built;
    }
