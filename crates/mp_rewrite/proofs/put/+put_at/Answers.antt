use Rattle.std.proofs.Common.{rules}
use Rattle.mp_rewrite.proofs.Walks.{put-past, put-made}
use Rattle.mp_rewrite.proofs.put.+put_at.Goals as goal

pub returns-then-number-subs : goal.returns-then-number-subs
returns-then-number-subs t c =
    rw (put-past c.args.address.now c.in-Some.number.now c.in-Some.rest.now (search rules) c.args.new c.args.t.now c.in-Op.op c.in-Op.params c.in-Op.subs c.in-Op.is (search rules))
    c.copy-then-number-subs.ensures

pub returns : goal.returns
returns t c =
    put-made c.args.address.now c.in-Some.number.now c.in-Some.rest.now (search rules) c.args.new c.args.t.now c.in-Op.op c.in-Op.params c.in-Op.subs c.in-Op.is
    c.index-subs-number.result c.in_ok-body.body c.in_ok-copy_params.field-0 c.in_ok-new.field-0 (search rules) (search rules) (search rules) (search rules) (search rules)
