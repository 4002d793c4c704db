use Rattle.std.proofs.Common.{◌≡◌, replicate}
use Rattle.mp_drill.specs.Workers.{idle}
use Rattle.mp_drill.proofs.workers.idle_workers.Given as goal

abbrev pub invariant-loop-worker : goal.invariant-loop-worker
invariant-loop-worker g l = l.workers.items ≡ replicate l._worker idle
