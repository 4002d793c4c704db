use Rattle.std.proofs.Common.{◌≡◌, subst, replicate, arith}
use Rattle.mp_drill.specs.Workers.{idle}
use Rattle.mp_drill.proofs.workers.idle_workers.Goals as goal

pub returns : goal.returns
returns g c =
    let end : c.loop-worker._worker ≡ 65 = omega arith in
    subst (λ n. c.loop-worker.workers.items ≡ replicate n idle) end c.loop-worker.invariant
