use Rattle.std.proofs.Common.{ap, ◌∙◌}
use Rattle.mp_theory.specs.Allowed.{is_allowed}
use Rattle.mp_steptext.specs.Terms.{just_by}
use Rattle.mp_steptext.proofs.AllowedSteps.{step_allowed}
use Rattle.mp_steptext.proofs.term.build_just.Goals as goal

pub returns : goal.returns
returns c =
    let t = c.args.theory.now in
    let value = c.just_by.ensures ∙ ap just_by c.in_ok-value.ensures in
    record { value = value; allowed = ap (is_allowed t) value ∙ step_allowed t c.len-count.ensures.theory c.args.step.now c.requires }
