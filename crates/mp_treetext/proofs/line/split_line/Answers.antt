use Rattle.mp_treetext.proofs.LineFacts.{walk_goes}
use Rattle.mp_treetext.proofs.line.split_line.Goals as goal

pub loop-word-preserved : goal.loop-word-preserved
loop-word-preserved c =
    let h = c.loop-word.invariant in
    let a = walk_goes c.args.words.now c.loop-word.rest.now c.in-Some-split_first.next.now c.loop-word.count c.in-Some-split_first.word.now c.in-Some-split_first.ensures.cases.0 c.if-word.false
    (record { dropped = h.rest; count = h.number; front = h.front; other = h.other }) in
    record { rest = a.dropped; number = a.count; front = a.front; other = a.other }
