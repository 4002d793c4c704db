use Rattle.std.proofs.Common.{arith, sym, ◌∙◌}
use Rattle.mp_words.proofs.Lines.{behind_blank}
use Rattle.mp_words.proofs.numbering.opens_line.Goals as goal

pub loop-left-preserved : goal.loop-left-preserved
loop-left-preserved c =
    let l = c.loop-left in
    let few = l.invariant.within in
    record {
      within = omega (arith, few);
      same = behind_blank c.args.source.now c.args.at l.left c.loop-left-test.true l.invariant.same c.if-before-eq10.false (sym c.blank.ensures ∙ c.if-not-blank.false);
    }
