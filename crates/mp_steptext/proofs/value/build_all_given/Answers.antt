use Rattle.std.proofs.Common.{[], ap, ◌∙◌}
use Rattle.std.specs.List.{flat_map}
use Rattle.mp_steptext.specs.Names.{all_met, given_numbers}
use Rattle.mp_steptext.specs.Statics.{missing_faults}
use Rattle.mp_steptext.proofs.MetNames.{new_given}
use Rattle.mp_steptext.proofs.KeptSteps.{nil_at}
use Rattle.mp_steptext.proofs.value.build_all_given.Goals as goal

pub build_given-requires-clause-names : goal.build_given-requires-clause-names
build_given-requires-clause-names g c =
    c.in_ok-names.ensures ∙ ap (λ gs. all_met [] (given_numbers gs)) c.as_slice.ensures ∙ new_given g.B.Body.arity g.B.Body.faults c.args.needs.now c.args.step.now.given c.requires.given

pub build_given-requires-clause-there : goal.build_given-requires-clause-there
build_given-requires-clause-there g c =
    let missing = missing_faults c.args.step.now in
    nil_at missing c.as_slice-need-items.result.now c.loop-need.need-index c.need-item.result c.loop-need-test.true c.need-item.is (ap (flat_map missing) c.as_slice-need-items.ensures ∙ c.requires.there)
