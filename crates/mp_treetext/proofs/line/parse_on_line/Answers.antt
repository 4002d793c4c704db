use Rattle.std.proofs.Common.{◌<◌, length, arith}
use Rattle.std.proofs.lemmas.Bool.Decides.{nat_tests}
use Rattle.mp_treetext.proofs.LineFacts.{line_fails, line_left, line_shorter}
use Rattle.mp_treetext.proofs.line.parse_on_line.Goals as goal

pub returns-in-Err-clause-reads : goal.returns-in-Err-clause-reads
returns-in-Err-clause-reads g c =
    line_fails g.R.Reader.grammar c.args.words.now c.split_line.result.0.now c.split_line.result.1.now c.split_line.ensures.front c.split_line.ensures.other
    c.in-Err.fail c.stopped_before.result c.stopped_before.ensures c.in-Err.ensures.reads

pub returns-then-not-is_empty-clause-reads : goal.returns-then-not-is_empty-clause-reads
returns-then-not-is_empty-clause-reads g c =
    let e = c.if-not-is_empty.ensures in
    let some : 0 < length c.in-Ok.read.1.now = grind (arith, nat_tests, e) in
    line_left g.R.Reader.grammar c.args.words.now c.split_line.result.0.now c.split_line.result.1.now c.split_line.ensures.front c.split_line.ensures.other
    c.in-Ok.read.0 c.in-Ok.read.1.now c.stuck.result c.stopped_before-then-not-is_empty.result c.in-Ok.ensures.reads some c.stuck.ensures c.stopped_before-then-not-is_empty.ensures

pub returns-clause-shorter : goal.returns-clause-shorter
returns-clause-shorter g c =
    line_shorter g.R.Reader.grammar c.args.words.now c.split_line.result.0.now c.split_line.result.1.now c.split_line.ensures.front c.split_line.ensures.other
    (length c.in-Ok.read.1.now) c.in-Ok.ensures.shorter
