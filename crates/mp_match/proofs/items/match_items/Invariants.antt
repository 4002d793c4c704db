use Rattle.mp_match.proofs.Ready.{Walking}
use Rattle.mp_match.proofs.items.match_items.Given as goal

abbrev pub invariant-loop-item : goal.invariant-loop-item
invariant-loop-item l = Walking l.sizes l.hyps l.items l.place l.found l.item-index
