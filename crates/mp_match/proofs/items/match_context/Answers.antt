use Rattle.std.proofs.Common.{refl, arith}
use Rattle.mp_match.proofs.Kept.{widest_from-ge}
use Rattle.mp_match.proofs.Contexts.{context_distinct, context_below, context-some}
use Rattle.mp_match.proofs.items.match_context.Goals as goal

pub kept_hypotheses-requires-clause-distinct : goal.kept_hypotheses-requires-clause-distinct
kept_hypotheses-requires-clause-distinct c =
    rw c.in_ok-levels.ensures (context_distinct c.args.place.now c.args.ctxs.now c.args.args.now c.requires.fine c.requires.known c.requires.usable)

pub kept_hypotheses-requires-clause-below : goal.kept_hypotheses-requires-clause-below
kept_hypotheses-requires-clause-below c =
    rw c.in_ok-levels.ensures (context_below c.args.place.now c.args.ctxs.now c.args.args.now c.requires.fine c.requires.known c.requires.usable)

pub overflow_cast-place : goal.overflow_cast-place
overflow_cast-place c = let k = widest_from-ge c.args.place.now.next c.args.hyps.now in omega (arith, k)

pub overflow_add-place : goal.overflow_add-place
overflow_add-place c = let k = widest_from-ge c.args.place.now.next c.args.hyps.now in omega (arith, k)

pub returns-in_default : goal.returns-in_default
returns-in_default c =
    rw c.in_default.ensures.ok
    (context-some c.args.name c.args.ctxs.now c.args.args.now c.args.hyps.now c.args.place.now c.in-Some.kept _
    (let e = c.in_ok-kept_hypotheses.ensures in rw (c.in_ok-levels.ensures, c.in-Some.is) at e) refl)
