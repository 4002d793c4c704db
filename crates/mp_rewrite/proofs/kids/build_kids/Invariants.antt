use Rattle.mp_schema.specs.Values.{instance_of}
use Rattle.mp_rewrite.specs.RewriteStep.{condition_by, kids_by}
use Rattle.mp_rewrite.proofs.Gathered.{Made}
use Rattle.mp_rewrite.proofs.kids.build_kids.Given as goal

abbrev pub invariant-loop-cond : goal.invariant-loop-cond
invariant-loop-cond l =
    let v = instance_of l.inst in
    let place = l.target.place in
    let target = l.target.goal.now in
    Made (condition_by place target l.inst.ambient v) l.rewrite.conds (kids_by l.rewrite place l.target.address.now target l.inst.ambient v) l.kids l.cond-index
