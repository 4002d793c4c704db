use Rattle.std.proofs.Common.{refl}
use Rattle.mp_schema.specs.Values.{instance_of}
use Rattle.mp_build.specs.Sites.{spot_of}
use Rattle.mp_build.proofs.Items.{items_next, items_pushed, items_behind, seq_made}
use Rattle.mp_build.proofs.sequent.make_sequent.Goals as goal

pub push_item-requires : goal.push_item-requires
push_item-requires c =
    let a = c.args in
    let v = instance_of a.inst.now in
    let s = a.schema.now in
    let l = spot_of c.loop-item.site in
    let low = rw c.as_slice-item-items.ensures at c.loop-item-test.true in
    let is = rw c.as_slice-item-items.ensures at c.item-item.is in
    let both = items_next v s.items s.concl l _ c.loop-item.item-index c.item-item.result low is refl c.loop-item.invariant.0 in
    both.0

pub loop-item-preserved : goal.loop-item-preserved
loop-item-preserved c =
    let a = c.args in
    let v = instance_of a.inst.now in
    let s = a.schema.now in
    let l = spot_of c.loop-item.site in
    let l' = spot_of c.push_item.new.site in
    let i = c.item-item.result in
    let k = c.loop-item.item-index in
    let low = rw c.as_slice-item-items.ensures at c.loop-item-test.true in
    let is = rw c.as_slice-item-items.ensures at c.item-item.is in
    let moved = c.in_ok-push_item.ensures.site in
    let both = items_next v s.items s.concl l l' k i low is moved c.loop-item.invariant.0 in (
      both.1,
      items_pushed v s.items l l' k i _ c.loop-item.hyps _ low is moved c.in_ok-push_item.ensures.hyps c.loop-item.invariant.1,
      items_behind v s.items l l' _ k i low is moved c.loop-item.invariant.2,
    )

pub returns : goal.returns
returns c =
    let a = c.args in
    let past = rw c.as_slice-item-items.ensures at c.loop-item-test.false in
    seq_made (instance_of a.inst.now) a.schema.now (spot_of c.loop-item.site) c.loop-item.item-index c.loop-item.hyps c.in_ok-concl.concl past c.loop-item.invariant.1 c.loop-item.invariant.2 c.in_ok-concl.ensures
