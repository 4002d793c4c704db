use Rattle.std.proofs.Common.{◌+◌, ◌++◌, ap, sym, ◌∙◌, drop, get_or, arith}
use Rattle.std.proofs.lemmas.Bool.Decides.{nat_tests}
use Rattle.mp_logic.specs.declared.sym.Sym.{Sym}
use Rattle.mp_treetext.specs.Differences.{difference}
use Rattle.mp_treetext.specs.Printed.{trees_text, printed_text}
use Rattle.mp_treetext.proofs.Pieces.{bytes_left, text_ends, text_next}
use Rattle.mp_treetext.proofs.comparing.file_difference.Goals as goal

pub returns-in-Some : goal.returns-in-Some
returns-in-Some c =
    let l = c.loop-place in
    let names = c.args.names.now in
    let t = c.args.theory.now in
    let goals = c.args.goals.now in
    let blocks = c.args.blocks.now in
    let here = drop l.at c.args.source.now in
    let more = trees_text names t (drop (l.place + 1) goals) (drop (l.place + 1) blocks) in
    let first : Sym = record { 0 = 0 } in
    let printed = printed_text names t (get_or goals l.place first) c.index-blocks-place.result in
    let text = c.as_slice.ensures.value ∙ c.in_ok-push_printed.ensures ∙ ap (λ xs. xs ++ printed) c.truncate.ensures.items in
    let there = c.loop-place-test.true in
    let same = c.requires in
    sym (c.in-Some.ensures.differs more) ∙ ap (λ ys. difference l.at here (ys ++ more)) text
    ∙ sym (ap (difference l.at here) (text_next names t goals blocks l.place first c.index-blocks-place.result (omega (arith, there, same)) there c.index-blocks-place.is)) ∙ l.invariant.same

pub returns-then-at-source : goal.returns-then-at-source
returns-then-at-source c =
    let l = c.loop-place in
    let done = c.loop-place-test.false in
    let same = c.requires in
    let left = c.if-at-source.true in
    sym (bytes_left c.args.source.now l.at (grind (arith, nat_tests, left)))
    ∙ sym (ap (λ ys. difference l.at (drop l.at c.args.source.now) ys) (text_ends c.args.names.now c.args.theory.now c.args.goals.now c.args.blocks.now l.place (omega (arith, done, same))))
    ∙ l.invariant.same
