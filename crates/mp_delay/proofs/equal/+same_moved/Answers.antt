use Rattle.std.proofs.Common.{◌≡◌, length, true, false, ◌∙◌, sym, arith}
use Rattle.mp_delay.specs.Moves.{moved}
use Rattle.mp_delay.proofs.EqualLaws.{same_bodies, same_bodies-length, apart_by_name, apart_by_params, apart_by_bodies, alike, binders_differ, terms_differ, both_same, all_same}
use Rattle.mp_delay.proofs.equal.+same_moved.Goals as goal
use Rattle.mp_delay.proofs.equal.+same_moved.Goals.{then-op-other_op-via-then-op-other_op, then-op-other_op-via-else-op-other_op+then-not-same_parameters, then-op-other_op-via-else-op-other_op+else-not-same_parameters+then-left-right, then-one-other-via-then-one-other, then-one-other-via-else-one-other+then-not-same_moved}

pub returns-then-op-other_op : goal.returns-then-op-other_op
returns-then-op-other_op t c =
    let f = moved c.args.first.now in
    let g = moved c.args.second.now in
    let a = c.in-Op-Op in
    let l : c.as_slice-left.result.now ≡ a.subs = c.as_slice-left.ensures ∙ c.get.ensures in
    let r : c.as_slice-right.result.now ≡ a.other_subs = c.as_slice-right.ensures ∙ c.get-in-Op-Op.ensures in
    rw (a.is-0, a.is-1) (sym (elim c.then-op-other_op.branch [
      | then-op-other_op-via-then-op-other_op w ↦
          apart_by_name f g a.op a.other_op a.params a.other_params a.subs a.other_subs w.if-op-other_op.true
      | then-op-other_op-via-else-op-other_op+then-not-same_parameters w ↦
          apart_by_params f g a.op a.other_op a.params a.other_params a.subs a.other_subs w.same_parameters.result
          (rw (w.as_slice.ensures, w.as_slice-else-op-other_op.ensures) at w.same_parameters.ensures) w.if-not-same_parameters.true
      | then-op-other_op-via-else-op-other_op+else-not-same_parameters+then-left-right w ↦
          apart_by_bodies f g a.op a.other_op a.params a.other_params a.subs a.other_subs
          (same_bodies-length f g a.subs a.other_subs (rw (← l, ← r) (λ e. w.if-left-right.true (cc))))
    ]))

pub returns-then-one-other : goal.returns-then-one-other
returns-then-one-other t c =
    let f = moved c.args.first.now in
    let g = moved c.args.second.now in
    let a = c.in-Op-Op in
    let bs = c.as_slice-left.result.now in
    let xs = c.as_slice-right.result.now in
    let l : bs ≡ a.subs = c.as_slice-left.ensures ∙ c.get.ensures in
    let r : xs ≡ a.other_subs = c.as_slice-right.ensures ∙ c.get-in-Op-Op.ensures in
    let as_many : length bs ≡ length xs = cc in
    let test : same_bodies f g bs xs ≡ false = elim c.then-one-other.branch [
      | then-one-other-via-then-one-other w ↦
          binders_differ f g bs xs c.loop-i.i c.index-left-i.result c.index-right-i.result c.loop-i-test.true as_many c.index-left-i.is c.index-right-i.is c.loop-i.invariant
          w.if-one-other.true
      | then-one-other-via-else-one-other+then-not-same_moved w ↦
          terms_differ f g bs xs c.loop-i.i c.index-left-i.result c.index-right-i.result c.loop-i-test.true as_many c.index-left-i.is c.index-right-i.is c.loop-i.invariant
          w.same_moved.result w.same_moved.ensures w.if-not-same_moved.true
    ] in
    rw (a.is-0, a.is-1) (sym (apart_by_bodies f g a.op a.other_op a.params a.other_params a.subs a.other_subs (rw (l, r) at test)))

pub loop-i-preserved : goal.loop-i-preserved
loop-i-preserved t c =
    let bs = c.as_slice-left.result.now in
    let xs = c.as_slice-right.result.now in
    let as_many : length bs ≡ length xs = cc in
    both_same (moved c.args.first.now) (moved c.args.second.now) bs xs c.loop-i.i c.index-left-i.result c.index-right-i.result
    c.loop-i-test.true as_many c.index-left-i.is c.index-right-i.is c.loop-i.invariant c.same_moved.result c.if-one-other.false c.same_moved.ensures c.if-not-same_moved.false

pub returns-after-loop-i : goal.returns-after-loop-i
returns-after-loop-i t c =
    let f = moved c.args.first.now in
    let g = moved c.args.second.now in
    let a = c.in-Op-Op in
    let bs = c.as_slice-left.result.now in
    let xs = c.as_slice-right.result.now in
    let l : bs ≡ a.subs = c.as_slice-left.ensures ∙ c.get.ensures in
    let r : xs ≡ a.other_subs = c.as_slice-right.ensures ∙ c.get-in-Op-Op.ensures in
    let as_many : length bs ≡ length xs = cc in
    let test = all_same f g bs xs c.loop-i.i c.loop-i-test.false as_many c.loop-i.invariant in
    rw (a.is-0, a.is-1) (sym (alike f g a.op a.other_op a.params a.other_params a.subs a.other_subs c.same_parameters.result c.if-op-other_op.false
    (rw (c.as_slice.ensures, c.as_slice-else-op-other_op.ensures) at c.same_parameters.ensures) c.if-not-same_parameters.false (rw (l, r) at test)))
