use Rattle.std.proofs.Common.{◌+◌, ◌-◌, length, ap, sym, ◌∙◌, arith}
use Rattle.std.proofs.lemmas.Result.{err_from_is_err_and}
use Rattle.mp_term.specs.Terms.{size_of, depth_of}
use Rattle.mp_schema.specs.Values.{instance_of}
use Rattle.mp_build.specs.Built.{term_of}
use Rattle.mp_rewrite.proofs.Weighing.{small_is, rewritten_err, rewritten_over, rewritten_within, rewritten_is, counted_sizes}
use Rattle.mp_rewrite.proofs.kids.build_rewritten.Goals as goal

pub returns-in_err-new : goal.returns-in_err-new
returns-in_err-new c =
    let p = err_from_is_err_and c.from_residual.result c.from_residual.ensures.1 in
    rw (p.1, p.2)
    (rewritten_err c.args.inst.now c.args.contractum.now c.requires.ready c.args.target.now.place c.args.target.now.address.now c.args.target.now.goal.now
    (record { term = c.args.target.now.old.now; scope = c.args.inst.now.ambient }) c.requires.there c.requires.goal _ c.in_err-new.ensures)

pub overflow_add-whole : goal.overflow_add-whole
overflow_add-whole c =
    let k = counted_sizes c.args.target.now.place c.args.target.now.address.now c.args.target.now.goal.now
    (record { term = c.args.target.now.old.now; scope = c.args.inst.now.ambient }) c.requires.there c.requires.goal in
    let small = k.small in
    let hyps = rw c.as_slice.ensures at c.total_size.ensures in
    let concl = c.size.ensures in
    omega (arith, small, hyps, concl)

pub overflow_sub-kept : goal.overflow_sub-kept
overflow_sub-kept c =
    let k = counted_sizes c.args.target.now.place c.args.target.now.address.now c.args.target.now.goal.now
    (record { term = c.args.target.now.old.now; scope = c.args.inst.now.ambient }) c.requires.there c.requires.goal in
    let small = k.small in
    let part = k.part in
    let hyps = rw c.as_slice.ensures at c.total_size.ensures in
    let concl = c.size.ensures in
    let old = c.size-2.ensures in
    omega (arith, small, part, hyps, concl, old)

pub overflow_add-nodes : goal.overflow_add-nodes
overflow_add-nodes c =
    let k = counted_sizes c.args.target.now.place c.args.target.now.address.now c.args.target.now.goal.now
    (record { term = c.args.target.now.old.now; scope = c.args.inst.now.ambient }) c.requires.there c.requires.goal in
    let small = k.small in
    let hyps = rw c.as_slice.ensures at c.total_size.ensures in
    let concl = c.size.ensures in
    let new = (small_is (term_of (instance_of c.args.inst.now) c.args.contractum.now) c.in_ok-new.ensures.1).size in
    let same = ap size_of c.in_ok-new.ensures.0 in
    let weight = c.weigh-weight.ensures.size in
    omega (arith, small, hyps, concl, new, same, weight)

pub overflow_add-depth : goal.overflow_add-depth
overflow_add-depth c =
    let new = (small_is (term_of (instance_of c.args.inst.now) c.args.contractum.now) c.in_ok-new.ensures.1).depth in
    let same = ap depth_of c.in_ok-new.ensures.0 in
    let weight = c.weigh-weight.ensures.depth in
    omega (arith, new, same, weight)

pub returns-then-is_over : goal.returns-then-is_over
returns-then-is_over c =
    let k = counted_sizes c.args.target.now.place c.args.target.now.address.now c.args.target.now.goal.now
    (record { term = c.args.target.now.old.now; scope = c.args.inst.now.ambient }) c.requires.there c.requires.goal in
    let small = k.small in
    let part = k.part in
    let hyps = rw c.as_slice.ensures at c.total_size.ensures in
    let concl = c.size.ensures in
    let old = c.size-2.ensures in
    let new = small_is (term_of (instance_of c.args.inst.now) c.args.contractum.now) c.in_ok-new.ensures.1 in
    let new_size = new.size in
    let new_depth = new.depth in
    let same = ap size_of c.in_ok-new.ensures.0 in
    let same_depth = ap depth_of c.in_ok-new.ensures.0 in
    let weight = c.weigh-weight.ensures.size in
    let weight_depth = c.weigh-weight.ensures.depth in
    rewritten_over c.args.inst.now c.args.contractum.now c.requires.ready c.args.target.now.place c.args.target.now.address.now c.args.target.now.goal.now
    (record { term = c.args.target.now.old.now; scope = c.args.inst.now.ambient }) c.requires.there c.requires.goal c.in_ok-new.new c.in_ok-new.ensures.0
    (c.total_size.result + c.size.result - c.size-2.result + c.weigh-weight.result.size) (length c.args.target.now.address.now + c.weigh-weight.result.depth)
    (sym c.is_over.ensures ∙ c.if-is_over.true)
    (omega (arith, small, part, hyps, concl, old, new_size, same, weight)) (omega (arith, new_depth, same_depth, weight_depth))

pub returns : goal.returns
returns c =
    let k = counted_sizes c.args.target.now.place c.args.target.now.address.now c.args.target.now.goal.now
    (record { term = c.args.target.now.old.now; scope = c.args.inst.now.ambient }) c.requires.there c.requires.goal in
    let small = k.small in
    let part = k.part in
    let hyps = rw c.as_slice.ensures at c.total_size.ensures in
    let concl = c.size.ensures in
    let old = c.size-2.ensures in
    let new = small_is (term_of (instance_of c.args.inst.now) c.args.contractum.now) c.in_ok-new.ensures.1 in
    let new_size = new.size in
    let new_depth = new.depth in
    let same = ap size_of c.in_ok-new.ensures.0 in
    let same_depth = ap depth_of c.in_ok-new.ensures.0 in
    let weight = c.weigh-weight.ensures.size in
    let weight_depth = c.weigh-weight.ensures.depth in (
      c.in_ok-made.ensures ∙ rewritten_is c.args.inst.now c.args.contractum.now c.requires.ready c.args.target.now.place c.args.target.now.address.now c.args.target.now.goal.now
          (record { term = c.args.target.now.old.now; scope = c.args.inst.now.ambient }) c.requires.there c.requires.goal c.in_ok-new.new c.in_ok-new.ensures.0,
      rewritten_within c.args.inst.now c.args.contractum.now c.requires.ready c.args.target.now.place c.args.target.now.address.now c.args.target.now.goal.now
          (record { term = c.args.target.now.old.now; scope = c.args.inst.now.ambient }) c.requires.there c.requires.goal c.in_ok-new.new c.in_ok-new.ensures.0
          (c.total_size.result + c.size.result - c.size-2.result + c.weigh-weight.result.size) (length c.args.target.now.address.now + c.weigh-weight.result.depth)
          (sym c.is_over.ensures ∙ c.if-is_over.false)
          (omega (arith, small, part, hyps, concl, old, new_size, same, weight)) (omega (arith, new_depth, same_depth, weight_depth)),
    )
