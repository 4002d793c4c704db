use Rattle.std.proofs.Common.{arith}
use Rattle.mp_match.proofs.Laid.{laid-usable}
use Rattle.mp_match.proofs.Ready.{Walking-next}
use Rattle.mp_match.proofs.items.match_items.Goals as goal

pub match_item-requires-clause-usable : goal.match_item-requires-clause-usable
match_item-requires-clause-usable c = laid-usable c.loop-item.place c.loop-item.invariant.ready.laid

pub loop-item-preserved : goal.loop-item-preserved
loop-item-preserved c =
    Walking-next _ _ _ c.loop-item.place c.loop-item.found c.loop-item.item-index c.item-item.result (omega arith) c.item-item.is c.loop-item.invariant _ _
    (rw c.if-not-branch.false at c.in_ok-match_item.ensures)
