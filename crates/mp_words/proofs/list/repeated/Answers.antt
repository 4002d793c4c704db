use Rattle.std.proofs.Common.{sym, ◌∙◌}
use Rattle.mp_words.proofs.Steps.{few_more, repeated_done, repeated_more, repeated_stuck, fails_on}
use Rattle.mp_words.specs.Grammars.{repeated}
use Rattle.mp_words.proofs.list.repeated.Goals as goal

pub loop-alloc-preserved : goal.loop-alloc-preserved
loop-alloc-preserved g c =
    let l = c.loop-alloc in
    let us = c.in-Ok.read.1.now in
    record {
      left = repeated_more g.R.Beginning.begun g.R.Reader.grammar l.items l.at.now c.args.words.now c.push.new.self c.in-Ok.read.0 us l.invariant.left c.in-Ok-push.ensures.ok (sym c.begins.ensures ∙ c.loop-alloc-test.true) c.in-Ok.ensures.reads c.in-Ok.ensures.shorter;
      few = few_more l.items c.push.new.self c.in-Ok.read.0 l.at.now us c.args.words.now c.in-Ok-push.ensures.ok c.in-Ok.ensures.shorter l.invariant.few;
    }

pub returns-in-Err-clause-reads : goal.returns-in-Err-clause-reads
returns-in-Err-clause-reads g c =
    let l = c.loop-alloc in
    fails_on (g.R.Reader.grammar l.at.now) (repeated g.R.Beginning.begun g.R.Reader.grammar c.args.words.now)
    (λ rest h. repeated_stuck g.R.Beginning.begun g.R.Reader.grammar l.items l.at.now c.args.words.now rest l.invariant.left (sym c.begins.ensures ∙ c.loop-alloc-test.true) h) c.in-Err.fail c.in-Err.ensures.reads

pub returns-clause-reads : goal.returns-clause-reads
returns-clause-reads g c =
    let l = c.loop-alloc in
    repeated_done g.R.Beginning.begun g.R.Reader.grammar l.items l.at.now c.args.words.now l.invariant.left (sym c.begins.ensures ∙ c.loop-alloc-test.false)
