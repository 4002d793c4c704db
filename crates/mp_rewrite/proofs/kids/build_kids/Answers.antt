use Rattle.std.proofs.Common.{◌≤◌, map, refl, sym, subst, sum_by, arith, rules}
use Rattle.std.proofs.lemmas.Result.{err_from_is_err_and}
use Rattle.mp_term.specs.Terms.{size_of}
use Rattle.mp_schema.specs.Values.{instance_of}
use Rattle.mp_rewrite.specs.Addresses.{put_in}
use Rattle.mp_rewrite.specs.Building.{IsReady}
use Rattle.mp_rewrite.specs.RewriteStep.{made_by, condition_by, kids_by}
use Rattle.mp_rewrite.proofs.Gathered.{Made-first, Made-next, Made-end, kid_err, first_err, condition_err}
use Rattle.mp_rewrite.proofs.Places.{limited, before_few}
use Rattle.mp_rewrite.proofs.kids.build_kids.Goals as goal

pub returns-in_err-rewritten : goal.returns-in_err-rewritten
returns-in_err-rewritten c =
    let p = err_from_is_err_and c.from_residual.result c.from_residual.ensures.1 in
    let v = instance_of c.args.inst.now in
    let t = c.args.target.now in
    let r = c.args.rewrite.now in
    let m = c.args.inst.now.ambient in
    rw (p.1, p.2)
    (first_err c.in_err-rewritten.field-0.0 (put_in t.place t.address.now (made_by m v r.contractum) t.goal.now) (map (condition_by t.place t.goal.now m v) r.conds) c.in_err-rewritten.ensures)

pub build_condition-requires-clause-ready : goal.build_condition-requires-clause-ready
build_condition-requires-clause-ready c =
    let low = rw c.as_slice-cond-items.ensures at c.loop-cond-test.true in
    let is = rw c.as_slice-cond-items.ensures at c.cond-item.is in
    subst (IsReady (instance_of c.args.inst.now)) (sym is) (c.requires.conditions c.loop-cond.cond-index c.cond-item.result low)

pub build_condition-requires-clause-few : goal.build_condition-requires-clause-few
build_condition-requires-clause-few c =
    rw c.hyps_before-before.ensures (before_few c.args.target.now.place c.args.target.now.goal.now (limited c.args.target.now.goal.now c.requires.goal)).0

pub build_condition-requires-clause-taken : goal.build_condition-requires-clause-taken
build_condition-requires-clause-taken c =
    let small : sum_by size_of c.hyps_before-before.result.now ≤ 20000 =
    rw c.hyps_before-before.ensures (before_few c.args.target.now.place c.args.target.now.goal.now (limited c.args.target.now.goal.now c.requires.goal)).1 in
    let taken = c.total_size-taken.ensures in
    omega (arith, small, taken)

pub build_condition-requires-clause-small : goal.build_condition-requires-clause-small
build_condition-requires-clause-small c =
    let small : sum_by size_of c.hyps_before-before.result.now ≤ 20000 =
    rw c.hyps_before-before.ensures (before_few c.args.target.now.place c.args.target.now.goal.now (limited c.args.target.now.goal.now c.requires.goal)).1 in
    let taken = c.total_size-taken.ensures in
    omega (arith, small, taken)

pub loop-cond-init : goal.loop-cond-init
loop-cond-init c =
    let v = instance_of c.args.inst.now in
    let t = c.args.target.now in
    let r = c.args.rewrite.now in
    Made-first (condition_by t.place t.goal.now c.args.inst.now.ambient v) r.conds (kids_by r t.place t.address.now t.goal.now c.args.inst.now.ambient v) _ c.in_ok-rewritten.rewritten c.push.new.self refl (search rules)
    c.in_ok-rewritten.ensures.0 c.in_ok-rewritten.ensures.1

pub loop-cond-preserved : goal.loop-cond-preserved
loop-cond-preserved c =
    let v = instance_of c.args.inst.now in
    let t = c.args.target.now in
    let r = c.args.rewrite.now in
    let low = rw c.as_slice-cond-items.ensures at c.loop-cond-test.true in
    let is = rw c.as_slice-cond-items.ensures at c.cond-item.is in
    let kid = rw c.hyps_before-before.ensures at c.in_ok-kid.ensures in
    Made-next (condition_by t.place t.goal.now c.args.inst.now.ambient v) r.conds (kids_by r t.place t.address.now t.goal.now c.args.inst.now.ambient v) c.loop-cond.kids
    c.push-in-loop-cond.new.self c.loop-cond.cond-index c.cond-item.result c.in_ok-kid.kid (search rules) low is kid.0 kid.1 c.loop-cond.invariant

pub returns-in_err-kid : goal.returns-in_err-kid
returns-in_err-kid c =
    let v = instance_of c.args.inst.now in
    let t = c.args.target.now in
    let r = c.args.rewrite.now in
    let low = rw c.as_slice-cond-items.ensures at c.loop-cond-test.true in
    let is = rw c.as_slice-cond-items.ensures at c.cond-item.is in
    let kid =
    condition_err c.in_err-kid.field-0.0 t.place t.goal.now c.args.inst.now.ambient v c.cond-item.result c.hyps_before-before.result.now c.hyps_before-before.ensures c.in_err-kid.ensures in
    let p = err_from_is_err_and c.from_residual-in_err-kid.result c.from_residual-in_err-kid.ensures.1 in
    rw (p.1, p.2) (kid_err (condition_by t.place t.goal.now c.args.inst.now.ambient v) r.conds (kids_by r t.place t.address.now t.goal.now c.args.inst.now.ambient v) _ c.loop-cond.kids
    c.loop-cond.cond-index c.cond-item.result low is kid c.loop-cond.invariant)

pub returns : goal.returns
returns c =
    let v = instance_of c.args.inst.now in
    let t = c.args.target.now in
    let r = c.args.rewrite.now in
    let past = rw c.as_slice-cond-items.ensures at c.loop-cond-test.false in
    Made-end (condition_by t.place t.goal.now c.args.inst.now.ambient v) r.conds (kids_by r t.place t.address.now t.goal.now c.args.inst.now.ambient v) c.loop-cond.kids
    c.loop-cond.cond-index past c.loop-cond.invariant
