use Rattle.std.proofs.Common.{◌<◌, length, arith}
use Rattle.mp_eval.proofs.Leaves.{first_of_step, first_in}
use Rattle.mp_eval.proofs.checks.+first_leaf.Goals as goal

pub loop-kid-init : goal.loop-kid-init
loop-kid-init g t c = first_of_step c.args.tree.now _ _ _ c.as_slice-kid-items.result.now c.in-Step.is c.as_slice-kid-items.ensures

pub returns-in-Some : goal.returns-in-Some
returns-in-Some g t c =
    let items = c.as_slice-kid-items.result.now in
    let here : c.loop-kid.kid-index < length items = omega (arith, c.loop-kid-test.true) in
    first_in items c.loop-kid.kid-index c.kid-item.result c.in-Some.goal.now _ here c.kid-item.is c.in-Some.ensures c.loop-kid.invariant
