use Rattle.std.proofs.Common.{ap, sym, ◌∙◌}
use Rattle.mp_steptext.specs.declared.body.StepValue.TheVariants as value
use Rattle.mp_steptext.proofs.KeptSteps.{step_keeps, value_made}
use Rattle.mp_steptext.proofs.value.build_rule_step.Goals as goal

pub build_all_given-requires : goal.build_all_given-requires
build_all_given-requires g c =
    let k = step_keeps g.B.Body.arity g.B.Body.faults c.args.theory.now c.args.step.now c.in-Some.place c.in-Some-rule.rule.now (sym c.in-Some.ensures) (sym c.in-Some-rule.ensures.rule) c.requires in
    record { bodies = k.bodies; there = k.there; given = k.given }

pub build_first-requires : goal.build_first-requires
build_first-requires g c = (step_keeps g.B.Body.arity g.B.Body.faults c.args.theory.now c.args.step.now c.in-Some.place c.in-Some-rule.rule.now (sym c.in-Some.ensures) (sym c.in-Some-rule.ensures.rule) c.requires).number

pub returns : goal.returns
returns g c =
    ap (λ first. value.Rule c.in-Some.place first c.in_ok-given.given) c.build_first.ensures
    ∙ value_made g.B.Body.arity g.B.Body.faults c.args.theory.now c.args.step.now c.in-Some.place c.in-Some-rule.rule.now (sym c.in-Some.ensures) (sym c.in-Some-rule.ensures.rule) g.B.Body.given c.in_ok-given.given c.in_ok-given.ensures
