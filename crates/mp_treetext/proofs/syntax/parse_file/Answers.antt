use Rattle.std.proofs.Common.{◌<◌, length, arith}
use Rattle.mp_words.specs.Grammars.{some_words}
use Rattle.mp_words.proofs.Loops.{more_words}
use Rattle.mp_words.proofs.Steps.{repeated_more}
use Rattle.mp_treetext.specs.Grammar.{block}
use Rattle.mp_treetext.proofs.FewFacts.{few_more}
use Rattle.mp_treetext.proofs.syntax.parse_file.Goals as goal

pub loop-at-preserved : goal.loop-at-preserved
loop-at-preserved c =
    let l = c.loop-at in
    let b = c.in-Ok.read.0 in
    let us = c.in-Ok.read.1.now in
    let few = c.in-Ok.ensures.few in
    let before = l.invariant.shorter in
    let less : length us < length l.at.now = omega (arith, few) in
    record {
      left = repeated_more some_words (block c.args.names.now) l.blocks l.at.now c.args.words.now c.push.new.self b us l.invariant.left c.in-Ok-push.ensures.ok (more_words l.at.now c.loop-at-test.ensures) c.in-Ok.ensures.reads less;
      shorter = omega (arith, less, before);
      few = few_more (length c.args.words.now) l.blocks c.push.new.self b c.in-Ok-push.ensures.ok l.invariant.few (omega (arith, few, before));
    }
