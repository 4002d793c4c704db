use Rattle.std.proofs.Common.{sym, ◌∙◌, arith}
use Rattle.mp_rewrite.proofs.Sites.{at-variable, at-none, at-some, step-narrow}
use Rattle.mp_rewrite.proofs.site.site_at.Goals as goal

pub returns-in-Var : goal.returns-in-Var
returns-in-Var c = sym (at-variable c.args.address.now c.loop-number.number-index (omega arith) c.loop-number.site.scope c.loop-number.site.term.now _ c.in-Var.is) ∙ c.loop-number.invariant.1

pub returns-in_err-sub : goal.returns-in_err-sub
returns-in_err-sub c = rw c.from_residual.ensures (sym (at-none c.args.address.now c.loop-number.number-index (omega arith) c.loop-number.site.scope c.loop-number.site.term.now c.in-Op.op c.in-Op.params c.in-Op.subs c.in-Op.is
    (sym (rw c.get-subs.ensures at c.in_err-sub.ensures))) ∙ c.loop-number.invariant.1)

pub overflow_add-site : goal.overflow_add-site
overflow_add-site c =
    let narrow = (step-narrow c.args.address.now c.loop-number.number-index (omega arith) c.loop-number.site.scope c.loop-number.site.term.now c.in-Op.op c.in-Op.params c.in-Op.subs c.in-Op.is
    c.in_ok-sub.sub.now (sym (rw c.get-subs.ensures at c.in_ok-sub.ensures)) c.loop-number.invariant.0).0 in
    omega (arith, narrow)

pub loop-number-preserved : goal.loop-number-preserved
loop-number-preserved c = (
  (step-narrow c.args.address.now c.loop-number.number-index (omega arith) c.loop-number.site.scope c.loop-number.site.term.now c.in-Op.op c.in-Op.params c.in-Op.subs c.in-Op.is
      c.in_ok-sub.sub.now (sym (rw c.get-subs.ensures at c.in_ok-sub.ensures)) c.loop-number.invariant.0).1,
  sym (at-some c.args.address.now c.loop-number.number-index (omega arith) c.loop-number.site.scope c.loop-number.site.term.now c.in-Op.op c.in-Op.params c.in-Op.subs c.in-Op.is
      c.in_ok-sub.sub.now (sym (rw c.get-subs.ensures at c.in_ok-sub.ensures))) ∙ c.loop-number.invariant.1,
)
