use Rattle.std.proofs.Common.{◌≡◌}
use Rattle.mp_refiner.specs.Lawful.{lawful}
use Rattle.mp_refiner.specs.Steps.{same_goal}
use Rattle.mp_refiner.proofs.Stepping.{same_test}
use Rattle.mp_refiner.proofs.refiner.RefinerLogic.same_goal.Goals as goal

pub returns : goal.returns
returns c =
    let a = c.args.a.now in
    let b = c.args.b.now in
    same_test c.same_sequent.result (same_goal a b) (a ≡ b) c.same_sequent.ensures ((lawful c.args.self.now).same_is a b)
