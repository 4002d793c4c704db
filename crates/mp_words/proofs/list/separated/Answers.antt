use Rattle.mp_words.specs.Fronts.{is_mark}
use Rattle.mp_words.proofs.Steps.{few_more, row_more, shorter_behind}
use Rattle.mp_words.proofs.list.separated.Goals as goal

pub loop-read-preserved : goal.loop-read-preserved
loop-read-preserved g c =
    let at = c.loop-read.at.now in
    let us = c.in-Ok.read.1.now in
    let next = c.in-Some-mark.next.now in
    let less = shorter_behind (is_mark c.args.separator) us next at c.in-Some-mark.ensures.0 c.in-Some-mark.ensures.1 c.in-Ok.ensures.shorter in
    record {
      left = row_more g.R.Reader.grammar (is_mark c.args.separator) (is_mark c.args.end) c.loop-read.items at c.args.words.now c.push.new.self c.in-Ok.read.0 us next c.loop-read.invariant.left c.in-Ok-push.ensures.ok c.in-Ok.ensures.reads c.in_default.ensures c.in-Some-mark.ensures.0 c.in-Some-mark.ensures.1 less;
      few = few_more c.loop-read.items c.push.new.self c.in-Ok.read.0 at next c.args.words.now c.in-Ok-push.ensures.ok less c.loop-read.invariant.few;
    }
