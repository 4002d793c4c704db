use Rattle.std.proofs.Common.{◌≡◌}
use Rattle.mp_strategy.specs.Evaluation.{eval}
use Rattle.mp_strategy.specs.declared.outcome.Outcome.{Outcome}
use Rattle.mp_core.specs.Cores.{moved}
use Rattle.mp_core.specs.Sound.{IsSoundCore}
use Rattle.mp_drill.specs.Rounds.{Rounds}
use Rattle.mp_drill.proofs.Rounding.{weight_at}
use Rattle.mp_drill.proofs.rounds.finish.Given as goal

abbrev pub invariant-loop-core : goal.invariant-loop-core
invariant-loop-core g l =
    let each = eval g.L.Logic.meaning l.fn.core.problem in
    record {
      same : l.core ≡ moved l.fn.core l.core.machine;
      sound : IsSoundCore g.L.Logic.meaning l.core;
      work : l.core.machine.work ≡ l.fn.core.machine.work;
      onward : (o : Outcome _) → Rounds each l.core.machine o → Rounds each l.fn.core.machine o;
    }

abbrev pub decreases-loop-core : goal.decreases-loop-core
decreases-loop-core g l = weight_at l.core.machine.node
