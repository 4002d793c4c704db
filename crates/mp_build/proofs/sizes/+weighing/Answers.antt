use Rattle.std.proofs.Common.{◌≡◌, ℕ, true, false, if◌then◌else◌, ◌<◌, ◌+◌, List, IsTrue, sym, refl, ap, ◌∙◌, arith, rules}
use denote.Param.Weighed.{at_most, most}
use Rattle.mp_logic.specs.declared.sym.Sym.{Sym}
use Rattle.mp_schema.specs.Sequents.{wide_of}
use Rattle.mp_schema.specs.Values.{instance_of, body_or}
use Rattle.mp_schema.specs.declared.pattern.ParamPat.{ParamPat}
use Rattle.mp_schema.specs.declared.pattern.PBound.{PBound}
use Rattle.mp_schema.specs.declared.pattern.Pattern.{Op, Meta, the_lemmas, Pattern}
use Rattle.mp_schema.proofs.pattern.PBound.TheLaws.{the_size}
use Rattle.mp_schema.proofs.pattern.Pattern.TheLaws as pattern_size
use Rattle.std.proofs.lemmas.Result.{err_from_is_err_and}
use Rattle.mp_term.specs.Subst.{occurs_in}
use Rattle.mp_build.specs.Sizes.{inst_size, inst_depth}
use Rattle.mp_term.specs.declared.term.Term.{Var}
use Rattle.mp_build.proofs.Layers.{inst_size-Meta, inst_depth-Meta}
use Rattle.mp_build.proofs.LimitSteps.{part_refused, bodies-first, used-pushed, args_refused, used_over, used_serve}
use Rattle.mp_build.proofs.RoomFacts.{narrow_body, narrow_arg, narrow_Meta}
use Rattle.mp_build.proofs.sizes.+weighing.Goals as goal
use Rattle.mp_build.proofs.sizes.+weighing.Goals.{weigh_args-then-occurs+in_ok-weight, weigh_args-else-occurs}

body_strictly : (b : PBound) → pattern_size.the_size b.body < the_size b
body_strictly b = search (rules, the_lemmas)

bodies_below : (o : Sym) (ps : List ParamPat) (subs : List PBound) → most the_size subs < pattern_size.the_size (Op o ps subs)
bodies_below o ps subs = search (rules, the_lemmas)

args_below : (n : Sym) (cs : List Sym) (args : List Pattern) → most pattern_size.the_size args < pattern_size.the_size (Meta n cs args)
args_below n cs args = search (rules, the_lemmas)

pub weigh_pattern-weigh_pattern-requires : goal.weigh_pattern-weigh_pattern-requires
weigh_pattern-weigh_pattern-requires t c =
    let v = instance_of c.args.inst.now in
    let b = c.sub-item.result in
    let m = rw (sym c.sub-item.is) at (at_most the_size c.as_slice-sub-items.result.now c.loop-sub.sub-index b (omega arith)) in
    let s = body_strictly b in
    let w : most the_size c.as_slice-sub-items.result.now < pattern_size.the_size c.args.p.now = rw (c.in-Op.is, c.as_slice-sub-items.ensures) (bodies_below c.in-Op.op c.in-Op.params c.in-Op.subs) in
    let narrow = narrow_body (wide_of v) v.values _ c.loop-sub.sub-index b (omega arith) c.sub-item.is c.loop-sub.invariant.narrow in
    (omega (arith, m, s, w, c.decreases), narrow.0)

pub weigh_applied-returns-in-Some : goal.weigh_applied-returns-in-Some
weigh_applied-returns-in-Some t c =
    let a = c.args in
    let v = instance_of a.inst.now in
    let known = rw (c.as_slice.ensures.value, c.width_before-before.ensures) at c.in-Some.ensures in
    let weights = rw c.width_before-before.ensures at c.in_ok-weights.ensures in
    let serve = used_serve v a.t.now (wide_of v a.ctxs.now) a.args.now _ _ weights.0 weights.1 in
    rw (← serve.0, ← serve.1) known

pub weigh_applied-returns : goal.weigh_applied-returns
weigh_applied-returns t c =
    let a = c.args in
    let v = instance_of a.inst.now in
    let known = rw (c.as_slice.ensures.value, c.width_before-before.ensures) at c.in-None.ensures in
    let weights = rw c.width_before-before.ensures at c.in_ok-weights.ensures in
    let serve = used_serve v a.t.now (wide_of v a.ctxs.now) a.args.now _ _ weights.0 weights.1 in
    rw (← serve.0, ← serve.1) known

pub weigh_args-returns-in_err-weight : goal.weigh_args-returns-in_err-weight
weigh_args-returns-in_err-weight t c =
    let a = c.args in
    let v = instance_of a.inst.now in
    let stands : IsTrue (occurs_in (a.before + c.loop-arg.arg-index) a.t.now) = rw (← c.loop-arg.invariant.level) (sym c.if-occurs.ensures) in
    let p = err_from_is_err_and c.from_residual.result c.from_residual.ensures.1 in
    rw (p.1, p.2) (
    args_refused v a.t.now a.before a.args.now _ _ _ c.in_err-weight.ensures
    (used_over v a.t.now a.before a.args.now c.loop-arg.arg-index c.arg-item.result (omega arith) c.arg-item.is stands)
    )

pub weigh_args-loop-arg-preserved : goal.weigh_args-loop-arg-preserved
weigh_args-loop-arg-preserved t c =
    let a = c.args in
    let v = instance_of a.inst.now in
    let size : Pattern → ℕ = inst_size (wide_of v) v.values in
    let depth : Pattern → ℕ = inst_depth (wide_of v) v.values in
    let i = c.loop-arg.arg-index in
    let x = c.arg-item.result in
    let level = c.loop-arg.level in
    let w = c.if-occurs.weight in
    let narrow = narrow_arg (wide_of v) v.values a.args.now i x (omega arith) c.arg-item.is c.loop-arg.invariant.narrow in
    let sized : w.size ≡ (if occurs_in level a.t.now then size x else 1) = elim c.if-occurs.branch [
      | weigh_args-then-occurs+in_ok-weight b ↦
          let stands : occurs_in level a.t.now ≡ true = sym c.occurs.ensures ∙ b.if-occurs.true in
          rw (stands, b.weight-is) b.in_ok-weight.ensures.size_is
      | weigh_args-else-occurs b ↦
          let none : occurs_in level a.t.now ≡ false = sym c.occurs.ensures ∙ b.if-occurs.false in
          rw (none, b.weight-is) refl
    ] in
    let deep : w.depth ≡ (if occurs_in level a.t.now then depth x else 1) = elim c.if-occurs.branch [
      | weigh_args-then-occurs+in_ok-weight b ↦
          let stands : occurs_in level a.t.now ≡ true = sym c.occurs.ensures ∙ b.if-occurs.true in
          rw (stands, b.weight-is) b.in_ok-weight.ensures.depth_is
      | weigh_args-else-occurs b ↦
          let none : occurs_in level a.t.now ≡ false = sym c.occurs.ensures ∙ b.if-occurs.false in
          rw (none, b.weight-is) refl
    ] in
    record {
      level = let e = c.loop-arg.invariant.level in omega (arith, e);
      sizes = used-pushed size (λ w. w.size) a.t.now a.args.now level (level + 1) i x _ c.loop-arg.weights.items _ w (omega arith) c.arg-item.is sized (search rules) refl c.loop-arg.invariant.sizes;
      depths = used-pushed depth (λ w. w.depth) a.t.now a.args.now level (level + 1) i x _ c.loop-arg.weights.items _ w (omega arith) c.arg-item.is deep (search rules) refl c.loop-arg.invariant.depths;
      narrow = narrow.1;
    }

pub weigh_pattern-returns-in_err-inner-in-Op : goal.weigh_pattern-returns-in_err-inner-in-Op
weigh_pattern-returns-in_err-inner-in-Op t c =
    let v = instance_of c.args.inst.now in
    let first = bodies-first (wide_of v) v.values _ c.loop-sub.sub-index c.sub-item.result (omega arith) c.sub-item.is in
    let size = c.loop-sub.invariant.size in
    let depth = c.loop-sub.invariant.depth in
    let sizes = first.0 in
    let depths = first.1 in
    let p = err_from_is_err_and c.from_residual.result c.from_residual.ensures.1 in
    rw (p.1, p.2) (part_refused _ _ _ _ _ c.in_err-inner-in-Op.ensures (λ over small. omega (arith, over, size, depth, sizes, depths)))

pub weigh_pattern-returns-in-None : goal.weigh_pattern-returns-in-None
weigh_pattern-returns-in-None t c =
    let v = instance_of c.args.inst.now in
    let first = bodies-first (wide_of v) v.values _ c.loop-sub.sub-index c.sub-item.result (omega arith) c.sub-item.is in
    let size = c.loop-sub.invariant.size in
    let depth = c.loop-sub.invariant.depth in
    let inner = c.in_ok-inner-in-Op.ensures in
    let inner_size = inner.size_is in
    let inner_depth = inner.depth_is in
    let sizes = first.0 in
    let depths = first.1 in
    λ small. omega (arith, c.in-None.ensures, size, depth, sizes, depths, inner_size, inner_depth)

pub weigh_pattern-loop-sub-preserved : goal.weigh_pattern-loop-sub-preserved
weigh_pattern-loop-sub-preserved t c =
    let v = instance_of c.args.inst.now in
    let first = bodies-first (wide_of v) v.values _ c.loop-sub.sub-index c.sub-item.result (omega arith) c.sub-item.is in
    let size = c.loop-sub.invariant.size in
    let depth = c.loop-sub.invariant.depth in
    let inner = c.in_ok-inner-in-Op.ensures in
    let inner_size = inner.size_is in
    let inner_depth = inner.depth_is in
    let sizes = first.0 in
    let depths = first.1 in
    let next = c.in-Some.ensures in
    let next_size = next.size_is in
    let next_depth = next.depth_is in
    let next_small = next.small in
    let next_shallow = next.shallow in
    let narrow = narrow_body (wide_of v) v.values _ c.loop-sub.sub-index c.sub-item.result (omega arith) c.sub-item.is c.loop-sub.invariant.narrow in
    record {
      small = omega (arith, next_size, next_small);
      some = omega (arith, next_depth);
      shallow = omega (arith, next_depth, next_shallow);
      size = omega (arith, next_size, size, sizes, inner_size);
      depth = omega (arith, next_depth, depth, depths, inner_depth);
      narrow = narrow.1;
    }

pub weigh_pattern-weigh_applied-requires : goal.weigh_pattern-weigh_applied-requires
weigh_pattern-weigh_applied-requires t c =
    let v = instance_of c.args.inst.now in
    let x = c.in-Meta in
    let narrow = narrow_Meta (wide_of v) v.values c.args.p.now x.name x.ctxs x.args x.is c.requires.narrow in
    let w : most pattern_size.the_size c.as_slice-args.result.now < pattern_size.the_size c.args.p.now = rw (x.is, c.as_slice-args.ensures) (args_below x.name x.ctxs x.args) in
    (omega (arith, w, c.decreases), (rw c.as_slice-ctxs.ensures narrow.0, rw c.as_slice-args.ensures narrow.1))

pub weigh_pattern-returns-in-Some-get : goal.weigh_pattern-returns-in-Some-get
weigh_pattern-returns-in-Some-get t c =
    let v = instance_of c.args.inst.now in
    let x = c.in-Meta in
    let value : v.values.meta x.name ≡ c.in-Some-get.value.now.body = ap body_or (sym c.in-Some-get.ensures) in
    let known = rw (c.as_slice-ctxs.ensures, c.as_slice-args.ensures, ← value) at c.weigh_applied.ensures in
    rw (x.is, inst_size-Meta (wide_of v) v.values x.name x.ctxs x.args, inst_depth-Meta (wide_of v) v.values x.name x.ctxs x.args) known

pub weigh_pattern-returns-in-None-get : goal.weigh_pattern-returns-in-None-get
weigh_pattern-returns-in-None-get t c =
    let v = instance_of c.args.inst.now in
    let x = c.in-Meta in
    let value : v.values.meta x.name ≡ Var 0 = ap body_or (sym c.in-None-get.ensures) in
    let known = rw (c.as_slice-ctxs.ensures, c.as_slice-args.ensures, ← value) at c.weigh_applied-in-None-get.ensures in
    rw (x.is, inst_size-Meta (wide_of v) v.values x.name x.ctxs x.args, inst_depth-Meta (wide_of v) v.values x.name x.ctxs x.args) known
