use Rattle.std.proofs.Common.{arith}
use Rattle.mp_termtext.proofs.Printed.{binders_next}
use Rattle.mp_termtext.proofs.print.push_binders.Goals as goal

pub loop-i-preserved : goal.loop-i-preserved
loop-i-preserved c = record {
  text = binders_next c.loop-i.out.items c.push_bytes.new.out.items c.push_name-in-loop-i.new.out.items _ c.args.scope c.loop-i.i c.args.count c.loop-i-test.true c.in_ok-push_bytes.ensures.text c.in_ok-push_name-2.ensures.text c.loop-i.invariant.text;
  grown = (let a = c.in_ok-push_bytes.ensures.grown in let b = c.in_ok-push_name-2.ensures.grown in let g = c.loop-i.invariant.grown in omega (arith, a, b, g));
}
