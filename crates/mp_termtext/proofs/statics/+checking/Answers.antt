use Rattle.std.proofs.Common.{◌≡◌, ◌+◌, min, ◌∙◌, arith}
use Rattle.mp_termtext.specs.Statics.{bound_faults_of}
use Rattle.mp_termtext.proofs.FaultSteps.{each_next}
use Rattle.mp_termtext.proofs.statics.+checking.Goals as goal

pub check_in-loop-sub-preserved : goal.check_in-loop-sub-preserved
check_in-loop-sub-preserved t c = record {
  kept = c.in_ok-held-in-Op.ensures.env ∙ c.loop-sub.invariant.kept;
  found = λ d e. (
      let a = c.min-inner.ensures in let b = c.saturating_add.ensures in
      let inner : min (d + 1) 201 ≡ c.min-inner.result = omega (arith, a, b, e) in
      each_next (bound_faults_of c.args.free) c.as_slice-sub-items.result.now c.loop-sub.sub-index c.sub-item.result c.args.env.now.items c.loop-sub.env.items (d + 1) c.loop-sub.held c.in_ok-held-in-Op.held _
      c.loop-sub-test.true c.sub-item.is c.loop-sub.invariant.kept (c.in_ok-held-in-Op.ensures.fault (d + 1) inner) (c.loop-sub.invariant.found d e));
}
