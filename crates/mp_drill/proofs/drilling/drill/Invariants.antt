use Rattle.std.proofs.Common.{◌≡◌}
use Rattle.mp_strategy.specs.Evaluation.{eval}
use Rattle.mp_core.specs.Cores.{started}
use Rattle.mp_drill.specs.Ready.{IsReady}
use Rattle.mp_drill.specs.Workers.{world, first_world}
use Rattle.mp_drill.proofs.Outcomes.{Good}
use Rattle.mp_drill.proofs.Scheduling.{Onward}
use Rattle.mp_drill.proofs.drilling.drill.Given as goal

abbrev pub invariant-loop-event : goal.invariant-loop-event
invariant-loop-event g l =
    let each = eval g.L.Logic.meaning l.problem in
    let now = world l.session.core.machine l.session.workers.items in
    record {
      ready : IsReady g.L.Logic.meaning l.session.core l.session.workers.items;
      same : l.session.core ≡ started l.problem l.session.core.machine;
      good : Good each l.fn.work now;
      onward : Onward each (first_world l.fn.work) l.event-items l.replies now l.event-index;
    }
