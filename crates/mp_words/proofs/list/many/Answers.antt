use Rattle.std.proofs.Common.{ap, ◌∙◌}
use Rattle.mp_words.specs.Grammars.{many, then_read, read, some_words, stuck, which, whole}
use Rattle.mp_words.proofs.Loops.{more_words, no_words}
use Rattle.mp_words.proofs.Steps.{fails_on, few_more, repeated_done, repeated_more, repeated_stuck}
use Rattle.mp_words.proofs.list.many.Goals as goal

pub loop-at-preserved : goal.loop-at-preserved
loop-at-preserved g c =
    let l = c.loop-at in
    let us = c.in-Ok.read.1.now in
    record {
      left = repeated_more some_words g.R.Reader.grammar l.items l.at.now c.args.words.now c.push.new.self c.in-Ok.read.0 us l.invariant.left c.in-Ok-push.ensures.ok (more_words l.at.now c.loop-at-test.ensures) c.in-Ok.ensures.reads c.in-Ok.ensures.shorter;
      few = few_more l.items c.push.new.self c.in-Ok.read.0 l.at.now us c.args.words.now c.in-Ok-push.ensures.ok c.in-Ok.ensures.shorter l.invariant.few;
    }

pub returns-in-Err-clause-reads : goal.returns-in-Err-clause-reads
returns-in-Err-clause-reads g c =
    let l = c.loop-at in
    fails_on (g.R.Reader.grammar l.at.now) (whole (many g.R.Reader.grammar) c.args.words.now)
    (λ rest h. ap (λ o. then_read o (λ x us. which (some_words us) (stuck us) (read x us))) (repeated_stuck some_words g.R.Reader.grammar l.items l.at.now c.args.words.now rest l.invariant.left (more_words l.at.now c.loop-at-test.ensures) h))
    c.in-Err.fail c.in-Err.ensures.reads

pub returns-clause-reads : goal.returns-clause-reads
returns-clause-reads g c =
    let l = c.loop-at in
    let none = no_words l.at.now c.loop-at-test.ensures in
    ap (λ o. then_read o (λ x us. which (some_words us) (stuck us) (read x us)))
    (repeated_done some_words g.R.Reader.grammar l.items l.at.now c.args.words.now l.invariant.left (ap some_words none) ∙ ap (λ us. read l.items us) none)
