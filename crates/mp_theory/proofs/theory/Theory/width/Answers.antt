use Rattle.std.proofs.Common.{arith}
use Rattle.mp_theory.proofs.LookUps.{width_next, width_past}
use Rattle.mp_theory.proofs.theory.Theory.width.Goals as goal
use Rattle.mp_theory.proofs.theory.Theory.width.Goals.{in-Some, in_default}

pub loop-place-preserved : goal.loop-place-preserved
loop-place-preserved c = elim c.match-law.branch [
  | in-Some w ↦
      let next = width_next c.args.self.now.laws c.loop-place.place c.loop-place.width w.in-Some.law.now w.in-Some.ensures.law c.loop-place.invariant in
      let most = w.max-width.ensures in
      let many = w.width.ensures in
      let is = w.width-is in
      omega arith
  | in_default w ↦
      let next = width_past c.args.self.now.laws c.loop-place.place c.loop-place.width w.in_default.ensures.law c.loop-place.invariant in
      let is = w.width-is in
      omega arith
]
