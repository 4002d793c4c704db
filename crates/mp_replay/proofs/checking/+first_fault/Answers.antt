use Rattle.std.proofs.Common.{◌≡◌, ◌+◌, drop, sym, subst, arith}
use Rattle.std.specs.List.{AllByRecursion}
use Rattle.mp_logic.specs.declared.tree.Tree.{Step}
use Rattle.mp_logic.specs.declared.tree.Tree.TheOpen as layer
use Rattle.mp_logic.specs.Valid.{StepHolds}
use Rattle.mp_replay.specs.Conditions.{CanReplay}
use Rattle.mp_replay.specs.Nodes.{preorder_of}
use Rattle.mp_replay.proofs.Layers.{goal_good, just_allowed, kids_can}
use Rattle.mp_replay.proofs.Walks.{begins_bad, begins, goes_on_after, finds_in_kid, finds_no_more, drop_first}
use Rattle.mp_replay.proofs.checking.+first_fault.Goals as goal

pub step_fault-requires-clause-good : goal.step_fault-requires-clause-good
step_fault-requires-clause-good g t c κs within =
    let m = g.L.Logic.meaning c.args.logic.now in
    goal_good m c.args.justs.now c.in-Step.goal c.in-Step.just c.in-Step.kids c.args.tree.now c.in-Step.is c.requires

pub step_fault-requires-clause-allowed : goal.step_fault-requires-clause-allowed
step_fault-requires-clause-allowed g t c κs within =
    let m = g.L.Logic.meaning c.args.logic.now in
    just_allowed m c.args.justs.now c.in-Step.goal c.in-Step.just c.in-Step.kids c.args.tree.now c.in-Step.is c.requires

pub returns-in-Some : goal.returns-in-Some
returns-in-Some g t c =
    let m = g.L.Logic.meaning c.args.logic.now in
    begins_bad m.step c.args.justs.now c.in-Step.goal c.in-Step.just c.in-Step.kids c.args.tree.now c.args.seen.now c.saturating_add.result c.in-Step.is c.in-Some.cause
    (rw c.in-Some.is at c.in_ok-cause-in-Step.ensures) c.saturating_add.ensures

pub loop-kid-init : goal.loop-kid-init
loop-kid-init g t c =
    let m = g.L.Logic.meaning c.args.logic.now in
    let justs = c.args.justs.now in
    let items = c.as_slice-kid-items.result.now in
    let is : c.args.tree.now ≡ Step c.in-Step.goal c.in-Step.just items = cc in
    let holds = subst (λ kids. StepHolds m.step justs (layer.Step c.in-Step.goal c.in-Step.just kids)) (sym c.as_slice-kid-items.ensures) (rw c.in_default.is at c.in_ok-cause-in-Step.ensures) in
    record {
      fits = c.saturating_add.type_inv;
      can = kids_can m justs c.in-Step.goal c.in-Step.just items c.args.tree.now is c.requires;
      goes_on = begins m.step justs c.in-Step.goal c.in-Step.just items c.args.tree.now c.args.seen.now c.saturating_add.result is holds c.saturating_add.ensures;
    }

pub first_fault-requires-after_bounds : goal.first_fault-requires-after_bounds
first_fault-requires-after_bounds g t c κs within =
    let items = c.as_slice-kid-items.result.now in
    let first = drop_first items c.loop-kid.kid-index c.kid-item.result c.loop-kid-test.true c.kid-item.is in
    (subst (AllByRecursion (CanReplay (g.L.Logic.meaning c.args.logic.now) c.args.justs.now)) first c.loop-kid.invariant.can).0

pub returns-in-Some-2 : goal.returns-in-Some-2
returns-in-Some-2 g t c =
    let m = g.L.Logic.meaning c.args.logic.now in
    let items = c.as_slice-kid-items.result.now in
    let i = c.loop-kid.kid-index in
    let first = drop_first items i c.kid-item.result c.loop-kid-test.true c.kid-item.is in
    finds_in_kid m.step c.args.justs.now c.kid-item.result (drop i items) (drop (i + 1) items) first (preorder_of c.args.tree.now) c.args.seen.now c.loop-kid.seen c.first_fault.new.seen c.loop-kid.invariant.goes_on
    c.in-Some-2.cause (rw c.in-Some-2.is at c.in_ok-cause-in-Step-2.ensures)

pub loop-kid-preserved : goal.loop-kid-preserved
loop-kid-preserved g t c =
    let m = g.L.Logic.meaning c.args.logic.now in
    let items = c.as_slice-kid-items.result.now in
    let i = c.loop-kid.kid-index in
    let first = drop_first items i c.kid-item.result c.loop-kid-test.true c.kid-item.is in
    let none = rw c.in_default-2.is at c.in_ok-cause-in-Step-2.ensures in
    record {
      fits = omega (arith, none.1);
      can = (subst (AllByRecursion (CanReplay m c.args.justs.now)) first c.loop-kid.invariant.can).1;
      goes_on =
          goes_on_after m.step c.args.justs.now c.kid-item.result (drop i items) (drop (i + 1) items) first (preorder_of c.args.tree.now) c.args.seen.now c.loop-kid.seen c.first_fault.new.seen c.loop-kid.invariant.goes_on none;
    }

pub returns-after-loop-kid : goal.returns-after-loop-kid
returns-after-loop-kid g t c =
    let m = g.L.Logic.meaning c.args.logic.now in
    let items = c.as_slice-kid-items.result.now in
    finds_no_more m.step c.args.justs.now items c.loop-kid.kid-index (preorder_of c.args.tree.now) c.args.seen.now c.loop-kid.seen c.loop-kid-test.false c.loop-kid.invariant.fits c.loop-kid.invariant.goes_on
