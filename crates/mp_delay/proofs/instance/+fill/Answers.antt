use Rattle.std.proofs.Common.{◌≡◌, ◌+◌, refl, sym, ◌∙◌, map, take, length, arith}
use Rattle.std.proofs.lemmas.List.{take_all}
use Rattle.mp_term.specs.declared.term.Term.{Op}
use Rattle.mp_delay.specs.Moves.{moved}
use Rattle.mp_delay.specs.Instances.{variables_and, put_into_bound}
use Rattle.mp_delay.specs.Made.{AreRemade}
use Rattle.mp_delay.proofs.InstanceLaws.{put-Op, can_bodies, can_at, one_remade, deep, answered}
use Rattle.mp_delay.proofs.instance.+fill.Goals as goal

pub loop-i-init : goal.loop-i-init
loop-i-init t c =
    let f = moved c.args.filling.now.own.now in
    let s = variables_and c.args.filling.now.moves.now c.args.filling.now.count c.args.filling.now.args.now in
    let kids : c.as_slice-kids.result.now ≡ c.in-Op.subs = c.as_slice-kids.ensures ∙ c.get.ensures in
    let can = rw c.in-Op.is at c.requires.can in
    (rw kids (can_bodies f s c.args.filling.now.scope c.args.depth c.in-Op.op c.in-Op.params c.in-Op.subs can), rw c.new-made.ensures refl)

pub overflow_add-depth : goal.overflow_add-depth
overflow_add-depth t c =
    let f = moved c.args.filling.now.own.now in
    let s = variables_and c.args.filling.now.moves.now c.args.filling.now.count c.args.filling.now.args.now in
    let m = c.args.filling.now.scope in
    let kid = c.index-kids-i.result in
    let can = (can_at f s m c.args.depth c.as_slice-kids.result.now c.loop-i.i kid c.loop-i-test.true c.index-kids-i.is c.loop-i.invariant.0).0 in
    let small = deep f s m (c.args.depth + kid.binders) kid.body can in
    omega (arith, small)

pub loop-i-preserved : goal.loop-i-preserved
loop-i-preserved t c =
    let f = moved c.args.filling.now.own.now in
    let s = variables_and c.args.filling.now.moves.now c.args.filling.now.count c.args.filling.now.args.now in
    let m = c.args.filling.now.scope in
    let kids = c.as_slice-kids.result.now in
    let kid = c.index-kids-i.result in
    let both = can_at f s m c.args.depth kids c.loop-i.i kid c.loop-i-test.true c.index-kids-i.is c.loop-i.invariant.0 in (
      both.1,
      one_remade f s m c.args.depth kids c.loop-i.i kid c.loop-i-test.true c.index-kids-i.is c.push_body.new.made c.in_ok-body-in-Op.body c.in_ok-body-in-Op.ensures
          (c.in_ok-push_body-in-Op.ensures (map (put_into_bound f s m c.args.depth) (take c.loop-i.i kids)) c.loop-i.invariant.1),
    )

pub returns-after-loop-i : goal.returns-after-loop-i
returns-after-loop-i t c =
    let f = moved c.args.filling.now.own.now in
    let s = variables_and c.args.filling.now.moves.now c.args.filling.now.count c.args.filling.now.args.now in
    let m = c.args.filling.now.scope in
    let kids = c.as_slice-kids.result.now in
    let is : kids ≡ c.in-Op.subs = c.as_slice-kids.ensures ∙ c.get.ensures in
    let all : take c.loop-i.i kids ≡ kids = take_all c.loop-i.i kids c.loop-i-test.false in
    let remade = rw all at c.loop-i.invariant.1 in
    let old : c.args.t.now ≡ Op c.in-Op.op c.in-Op.params kids = rw is c.in-Op.is in
    answered c.remake.result c.in-Op.op c.in-Op.params c.loop-i.made kids (map (put_into_bound f s m c.args.depth) kids) c.args.t.now _ c.remake.ensures remade old
    (rw old (put-Op f s m c.args.depth c.in-Op.op c.in-Op.params kids))
