use Rattle.std.proofs.Common.{rules, ◌+◌, ◌++◌, ap, sym, ◌∙◌, drop, get_or}
use Rattle.mp_treetext.specs.Differences.{difference}
use Rattle.mp_treetext.proofs.Pieces.{byte_differs, item_next}
use Rattle.mp_treetext.proofs.comparing.piece_difference.Goals as goal

pub returns-then-not-stands-clause-differs : goal.returns-then-not-stands-clause-differs
returns-then-not-stands-clause-differs c more =
    let l = c.loop-byte in
    let b = get_or c.args.piece.now l.byte-index 0 in
    sym (l.invariant.same more) ∙ ap (λ ys. difference l.here (drop l.here c.args.source.now) (ys ++ more)) (item_next c.args.piece.now l.byte-index 0 c.loop-byte-test.true)
    ∙ byte_differs c.args.source.now l.here b (drop (l.byte-index + 1) c.args.piece.now ++ more) (search rules)
