use Rattle.mp_theorytext.proofs.RewriteSteps.{reads_others}
use Rattle.mp_theorytext.proofs.syntax.parse_others.Goals as goal

pub returns-in-Some-mark-clause-reads : goal.returns-in-Some-mark-clause-reads
returns-in-Some-mark-clause-reads c =
    reads_others (λ x. (x.0, x.1.now)) c.args.words.now c.in-Some-mark.next.now c.in_default.ensures c.in-Some-mark.ensures.0 c.in-Some-mark.ensures.1 c.separated.result c.separated.ensures.reads
