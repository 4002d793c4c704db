use Rattle.mp_match.proofs.Kept.{Keeping}
use Rattle.mp_match.proofs.items.kept_hypotheses.Given as goal

abbrev pub invariant-loop-hyp : goal.invariant-loop-hyp
invariant-loop-hyp l = Keeping l.initial.levels l.first l.hyps l.levels l.scope l.kept l.hyp-index
