use Rattle.std.proofs.Common.{◌≡◌, Some, ap, sym, ◌∙◌}
use Rattle.mp_steptext.specs.Statics.{given_of}
use Rattle.mp_steptext.proofs.KeptSteps.{given_body}
use Rattle.mp_steptext.proofs.value.build_given.Goals as goal

pub build-requires : goal.build-requires
build-requires g c =
    let gs = c.args.step.now.given in
    let name = c.args.need.now.name in
    let found : given_of gs name ≡ Some c.in-Some.raw.now = ap (λ x. given_of x name) (sym c.as_slice.ensures) ∙ sym c.in-Some.ensures in
    given_body g.B.Body.arity g.B.Body.faults gs name c.in-Some.raw.now c.requires.bodies found
