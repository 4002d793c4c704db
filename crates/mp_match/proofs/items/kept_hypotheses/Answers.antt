use Rattle.std.proofs.Common.{arith}
use Rattle.mp_match.proofs.Kept.{Keeping-end, Keeping-next, Keeping-fails, here_scoped, here_narrow}
use Rattle.mp_match.proofs.items.kept_hypotheses.Goals as goal

pub unrename-requires-clause-scoped : goal.unrename-requires-clause-scoped
unrename-requires-clause-scoped c = here_scoped _ _ _ _ _ _ _ c.hyp-item.result (omega arith) c.hyp-item.is c.loop-hyp.invariant

pub unrename-requires-clause-narrow : goal.unrename-requires-clause-narrow
unrename-requires-clause-narrow c = (here_narrow _ _ _ _ _ _ _ c.hyp-item.result (omega arith) c.hyp-item.is c.loop-hyp.invariant).0

pub overflow_add-scope : goal.overflow_add-scope
overflow_add-scope c = let k = here_narrow _ _ _ _ _ _ _ c.hyp-item.result (omega arith) c.hyp-item.is c.loop-hyp.invariant in omega (arith, k)

pub returns-in_default : goal.returns-in_default
returns-in_default c =
    Keeping-fails _ _ _ _ _ _ _ c.hyp-item.result (omega arith) c.hyp-item.is c.loop-hyp.invariant (rw (c.in_default.is) at c.in_ok-term.ensures.inverse)

pub loop-hyp-preserved : goal.loop-hyp-preserved
loop-hyp-preserved c =
    Keeping-next _ _ _ _ _ _ _ c.hyp-item.result (omega arith) c.hyp-item.is c.loop-hyp.invariant c.in-Some.term _ _ (rw (c.in-Some.is) at c.in_ok-term.ensures.inverse)
    c.in_default-push.ensures.ok c.in_ok-push.ensures.ok

pub returns : goal.returns
returns c = Keeping-end _ _ _ _ _ _ c.loop-hyp.hyp-index (omega arith) c.loop-hyp.invariant
