use Rattle.std.proofs.Common.{sym, arith}
use denote.Param.Weighed.{at_most}
use Rattle.mp_schema.proofs.pattern.PBound.TheLaws.{the_size}
use Rattle.mp_match.proofs.Bodies.{body_strictly}
use Rattle.mp_match.proofs.OtherShapes.{nothing-under-others, nothing-in-body, nothing-in-bodies, nothing-in-more, nothing-at}
use Rattle.mp_match.proofs.shapes.+shapes.Goals as goal

pub have_shapes_of-has_shape_of-requires : goal.have_shapes_of-has_shape_of-requires
have_shapes_of-has_shape_of-requires t c =
    let m = rw (sym c.index-subs-i.is) at (at_most the_size c.args.subs.now c.loop-i.i c.index-subs-i.result (omega arith)) in
    let s = body_strictly c.index-subs-i.result in
    omega (arith, m, s, c.decreases)

pub has_shape_of-returns-else-ne : goal.has_shape_of-returns-else-ne
has_shape_of-returns-else-ne t c = λ f.
    nothing-in-bodies c.args.p.now c.args.t.now c.in-Op.op c.in-Op.params c.in-Op.subs c.in-Op-t.other c.in-Op-t.params c.in-Op-t.bodies c.in-Op.is c.in-Op-t.is
    (rw (c.as_slice.ensures, c.as_slice-in-Op-t.ensures, c.get.ensures) at (c.have_shapes_of.ensures f))

pub have_shapes_of-returns-then-subs-bodies : goal.have_shapes_of-returns-then-subs-bodies
have_shapes_of-returns-then-subs-bodies t c = λ _. nothing-in-more c.args.subs.now c.args.bodies.now (omega arith)

pub have_shapes_of-returns-then-sub-bound : goal.have_shapes_of-returns-then-sub-bound
have_shapes_of-returns-then-sub-bound t c = λ _.
    nothing-at c.args.subs.now c.args.bodies.now c.loop-i.i c.index-subs-i.result c.index-bodies-i.result (omega arith) (omega arith) c.index-subs-i.is c.index-bodies-i.is
    (nothing-under-others c.index-subs-i.result c.index-bodies-i.result c.if-sub-bound.true)

pub have_shapes_of-returns-then-not-has_shape_of : goal.have_shapes_of-returns-then-not-has_shape_of
have_shapes_of-returns-then-not-has_shape_of t c = λ _.
    nothing-at c.args.subs.now c.args.bodies.now c.loop-i.i c.index-subs-i.result c.index-bodies-i.result (omega arith) (omega arith) c.index-subs-i.is c.index-bodies-i.is
    (nothing-in-body c.index-subs-i.result c.index-bodies-i.result (c.has_shape_of.ensures c.if-not-has_shape_of.true))
