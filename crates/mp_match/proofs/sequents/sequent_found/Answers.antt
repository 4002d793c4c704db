use Rattle.std.proofs.Common.{sym, refl, ap, length, arith}
use Rattle.mp_match.proofs.Kept.{widest_from-ge}
use Rattle.mp_match.proofs.SequentSizes.{given-two, sizes-counted}
use Rattle.mp_match.proofs.Ended.{end-usable, end-known, end-fine_within, end-scoped, end-narrow}
use Rattle.mp_match.proofs.OtherShapes.{no-match}
use Rattle.mp_match.proofs.sequents.sequent_found.Goals as goal

pub overflow_cast-hyps : goal.overflow_cast-hyps
overflow_cast-hyps c =
    let k = widest_from-ge 0 c.args.goal.now.hyps in
    let e = ap length c.as_slice-hyps.ensures in omega (arith, k, e)

pub match_items-requires-clause-counted : goal.match_items-requires-clause-counted
match_items-requires-clause-counted c =
    let is = rw c.in-Some.is at c.context_sizes.ensures in
    rw c.as_slice.ensures
    (sizes-counted c.args.concl.now.items c.args.first _ c.in-Some.sizes (given-two c.args.concl.now c.args.first c.requires.conclusion c.requires.sized) (sym is))

pub match_within-requires-clause-fine : goal.match_within-requires-clause-fine
match_within-requires-clause-fine c =
    let is = rw (c.as_slice-hyps.ensures, c.in-Some.is) at c.context_sizes.ensures in
    let counted = sizes-counted c.args.concl.now.items c.args.first _ c.in-Some.sizes (given-two c.args.concl.now c.args.first c.requires.conclusion c.requires.sized) (sym is) in
    let walked = rw (c.as_slice-hyps.ensures, c.as_slice.ensures, c.in-Some-2.is) at c.in_ok-walk.ensures in
    end-fine_within c.args.concl.now c.args.goal.now c.requires.conclusion c.requires.scoped c.requires.narrow c.in-Some.sizes counted c.in-Some-2.walk (sym walked) _ refl

pub match_within-requires-clause-known : goal.match_within-requires-clause-known
match_within-requires-clause-known c =
    let is = rw (c.as_slice-hyps.ensures, c.in-Some.is) at c.context_sizes.ensures in
    let counted = sizes-counted c.args.concl.now.items c.args.first _ c.in-Some.sizes (given-two c.args.concl.now c.args.first c.requires.conclusion c.requires.sized) (sym is) in
    let walked = rw (c.as_slice-hyps.ensures, c.as_slice.ensures, c.in-Some-2.is) at c.in_ok-walk.ensures in
    end-known c.args.concl.now c.args.goal.now c.requires.conclusion c.requires.scoped c.requires.narrow c.in-Some.sizes counted c.in-Some-2.walk (sym walked)

pub match_within-requires-clause-usable : goal.match_within-requires-clause-usable
match_within-requires-clause-usable c =
    let is = rw (c.as_slice-hyps.ensures, c.in-Some.is) at c.context_sizes.ensures in
    let counted = sizes-counted c.args.concl.now.items c.args.first _ c.in-Some.sizes (given-two c.args.concl.now c.args.first c.requires.conclusion c.requires.sized) (sym is) in
    let walked = rw (c.as_slice-hyps.ensures, c.as_slice.ensures, c.in-Some-2.is) at c.in_ok-walk.ensures in
    end-usable c.args.concl.now c.args.goal.now c.requires.conclusion c.requires.scoped c.requires.narrow c.in-Some.sizes counted c.in-Some-2.walk (sym walked)

pub match_within-requires-clause-scoped : goal.match_within-requires-clause-scoped
match_within-requires-clause-scoped c =
    let is = rw (c.as_slice-hyps.ensures, c.in-Some.is) at c.context_sizes.ensures in
    let counted = sizes-counted c.args.concl.now.items c.args.first _ c.in-Some.sizes (given-two c.args.concl.now c.args.first c.requires.conclusion c.requires.sized) (sym is) in
    let walked = rw (c.as_slice-hyps.ensures, c.as_slice.ensures, c.in-Some-2.is) at c.in_ok-walk.ensures in
    end-scoped c.args.concl.now c.args.goal.now c.requires.conclusion c.requires.scoped c.requires.narrow c.in-Some.sizes counted c.in-Some-2.walk (sym walked)

pub match_within-requires-clause-narrow : goal.match_within-requires-clause-narrow
match_within-requires-clause-narrow c =
    let is = rw (c.as_slice-hyps.ensures, c.in-Some.is) at c.context_sizes.ensures in
    let counted = sizes-counted c.args.concl.now.items c.args.first _ c.in-Some.sizes (given-two c.args.concl.now c.args.first c.requires.conclusion c.requires.sized) (sym is) in
    let walked = rw (c.as_slice-hyps.ensures, c.as_slice.ensures, c.in-Some-2.is) at c.in_ok-walk.ensures in
    end-narrow c.args.concl.now c.args.goal.now c.requires.conclusion c.requires.scoped c.requires.narrow c.in-Some.sizes counted c.in-Some-2.walk (sym walked)

pub returns-then-not-has_shape_of : goal.returns-then-not-has_shape_of
returns-then-not-has_shape_of c = sym (no-match c.args.concl.now c.args.first c.args.goal.now (c.has_shape_of.ensures c.if-not-has_shape_of.true))
