use Rattle.std.proofs.Common.{◌+◌, sym, refl, arith}
use Rattle.std.proofs.lemmas.List.{length-map}
use Rattle.mp_match.specs.Matching.{matcher_bound}
use Rattle.mp_match.specs.Places.{ground_of}
use Rattle.mp_match.proofs.Steps.{all-length}
use Rattle.mp_match.proofs.Bodies.{here_fine, here_known, here_scoped, here_narrow, differs, fails, Walked-next, Walked-end}
use Rattle.mp_match.proofs.Known.{meta_distinct, meta_below, meta_is}
use denote.Param.Weighed.{at_most}
use Rattle.mp_schema.proofs.pattern.PBound.TheLaws.{the_size}
use Rattle.mp_match.proofs.Bodies.{body_strictly}
use Rattle.mp_match.proofs.patterns.+matching.Goals as goal

pub match_subs-loop-i-init : goal.match_subs-loop-i-init
match_subs-loop-i-init t c =
    record { fine = c.requires.fine; known = c.requires.known; scoped = c.requires.scoped; narrow = c.requires.narrow; same = refl }

pub match_subs-returns-then-subs-bodies : goal.match_subs-returns-then-subs-bodies
match_subs-returns-then-subs-bodies t c =
    let e = length-map c.args.subs.now (matcher_bound (ground_of c.args.place.now)) in
    sym (all-length _ _ _ c.args.bodies.now _ (omega arith))

pub match_subs-returns-then-sub-bound : goal.match_subs-returns-then-sub-bound
match_subs-returns-then-sub-bound t c =
    differs _ _ _ _ _ _ c.loop-i.i c.index-subs-i.result c.index-bodies-i.result (omega arith) (omega arith) c.index-subs-i.is c.index-bodies-i.is
    c.loop-i.invariant c.if-sub-bound.true

pub match_subs-overflow_add-inner : goal.match_subs-overflow_add-inner
match_subs-overflow_add-inner t c =
    let k = here_narrow _ _ _ _ _ _ c.loop-i.i c.index-subs-i.result c.index-bodies-i.result (omega arith) (omega arith) c.index-subs-i.is c.index-bodies-i.is
    c.loop-i.invariant _ refl in
    omega (arith, k)

pub match_subs-returns-then-not-branch : goal.match_subs-returns-then-not-branch
match_subs-returns-then-not-branch t c =
    fails _ _ _ _ _ _ c.loop-i.i c.index-subs-i.result c.index-bodies-i.result (omega arith) (omega arith) c.index-subs-i.is c.index-bodies-i.is
    c.loop-i.invariant _ c.requires.outer c.if-sub-bound.false refl (rw c.if-not-branch.true at c.in_ok-match_within.ensures)

pub match_subs-loop-i-preserved : goal.match_subs-loop-i-preserved
match_subs-loop-i-preserved t c =
    Walked-next _ _ _ _ _ _ c.loop-i.i c.index-subs-i.result c.index-bodies-i.result (omega arith) (omega arith) c.index-subs-i.is c.index-bodies-i.is
    c.loop-i.invariant _ c.requires.outer c.if-sub-bound.false refl _ (rw c.if-not-branch.false at c.in_ok-match_within.ensures)

pub match_subs-returns : goal.match_subs-returns
match_subs-returns t c = Walked-end _ _ _ _ _ _ c.loop-i.i (omega arith) (omega arith) c.loop-i.invariant

pub match_subs-match_within-requires : goal.match_subs-match_within-requires
match_subs-match_within-requires t c =
    let m = rw (sym c.index-subs-i.is) at (at_most the_size c.args.subs.now c.loop-i.i c.index-subs-i.result (omega arith)) in
    let s = body_strictly c.index-subs-i.result in
    let narrow = here_narrow _ _ _ _ _ _ c.loop-i.i c.index-subs-i.result c.index-bodies-i.result (omega arith) (omega arith) c.index-subs-i.is c.index-bodies-i.is
    c.loop-i.invariant (c.args.scope + c.index-subs-i.result.binders) (omega arith) in (
      omega (arith, m, s, c.decreases),
      (
        omega arith,
        (
          here_fine _ _ _ _ _ _ c.loop-i.i c.index-subs-i.result c.index-bodies-i.result (omega arith) (omega arith) c.index-subs-i.is c.index-bodies-i.is
              c.loop-i.invariant _ c.requires.outer refl,
          (
            here_known _ _ _ _ _ _ c.loop-i.i c.index-subs-i.result c.index-bodies-i.result (omega arith) (omega arith) c.index-subs-i.is c.index-bodies-i.is
                c.loop-i.invariant,
            (
              c.requires.usable,
              (
                here_scoped _ _ _ _ _ _ c.loop-i.i c.index-subs-i.result c.index-bodies-i.result (omega arith) (omega arith) c.index-subs-i.is c.index-bodies-i.is
                    c.loop-i.invariant _ (omega arith),
                narrow.1,
              ),
            ),
          ),
        ),
      ),
    )

pub match_within-match_meta-requires-clause-distinct : goal.match_within-match_meta-requires-clause-distinct
match_within-match_meta-requires-clause-distinct t c =
    rw c.in_ok-levels-in-Meta.ensures
    (meta_distinct c.args.place.now c.args.scope c.in-Meta.name c.in-Meta.ctxs c.in-Meta.args c.args.p.now c.in-Meta.is c.requires.outer c.requires.fine c.requires.known c.requires.usable)

pub match_within-match_meta-requires-clause-below : goal.match_within-match_meta-requires-clause-below
match_within-match_meta-requires-clause-below t c =
    rw c.in_ok-levels-in-Meta.ensures
    (meta_below c.args.place.now c.args.scope c.in-Meta.name c.in-Meta.ctxs c.in-Meta.args c.args.p.now c.in-Meta.is c.requires.outer c.requires.fine c.requires.known c.requires.usable)

pub match_within-returns-in_ok-levels-in-Meta : goal.match_within-returns-in_ok-levels-in-Meta
match_within-returns-in_ok-levels-in-Meta t c =
    rw (meta_is c.args.place.now c.args.scope c.in-Meta.name c.in-Meta.ctxs c.in-Meta.args c.args.p.now c.args.t.now c.args.found.now c.in-Meta.is)
    (rw c.in_ok-levels-in-Meta.ensures at c.match_meta.ensures)
