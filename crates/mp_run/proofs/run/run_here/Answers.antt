use Rattle.std.proofs.Common.{[], refl, subst, Option}
use Rattle.mp_run.specs.Commands.{Command}
use Rattle.mp_run.specs.Sessions.{Session}
use Rattle.mp_run.proofs.run.run_here.Goals as goal

pub returns-in-Some : goal.returns-in-Some
returns-in-Some g c =
    let h = c.run_command.ensures in
    (h.0, h.1, h.2, h.3, subst (λ (x : Option Command). Session x h.0 h.1 c.run_command.result) c.in-Some.ensures h.4)

pub returns-in-None : goal.returns-in-None
returns-in-None g c =
    let h = c.tell.ensures in
    ([], h.0, refl, h.1, subst (λ (x : Option Command). Session x [] h.0 c.tell.result) c.in-None.ensures (refl, h.2))
