use Rattle.std.proofs.Common.{◌≡◌, IsTrue, sym, subst}
use Rattle.std.specs.Prelude.{◌↔◌}
use Rattle.mp_core.proofs.works.same_goals.Goals as goal

pub returns : goal.returns
returns g c = subst (λ b. IsTrue b ↔ (c.args.a.now ≡ c.args.b.now)) (sym c.same_goal.ensures) ((g.met.L.Logic.lawful c.args.logic.now).same_is c.args.a.now c.args.b.now)
