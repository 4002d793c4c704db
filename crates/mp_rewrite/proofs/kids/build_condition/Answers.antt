use Rattle.std.proofs.Common.{ap, arith}
use Rattle.std.proofs.lemmas.Result.{err_from_is_err_and}
use Rattle.mp_term.specs.Terms.{size_of}
use Rattle.mp_schema.specs.Values.{instance_of}
use Rattle.mp_build.specs.Built.{term_of}
use Rattle.mp_rewrite.proofs.Weighing.{small_is, condition_err, condition_over, condition_fits, left_is}
use Rattle.mp_rewrite.proofs.kids.build_condition.Goals as goal

pub returns-in_err-concl : goal.returns-in_err-concl
returns-in_err-concl c =
    let p = err_from_is_err_and c.from_residual.result c.from_residual.ensures.1 in
    rw (p.1, p.2) (condition_err c.args.inst.now c.args.cond.now c.requires.ready c.args.before.now c.requires.few _ c.in_err-concl.ensures)

pub returns-then-taken-size-gt-MOST_NODES : goal.returns-then-taken-size-gt-MOST_NODES
returns-then-taken-size-gt-MOST_NODES c =
    let small = (small_is (term_of (instance_of c.args.inst.now) c.args.cond.now) c.in_ok-concl.ensures.1).size in
    let same = ap size_of c.in_ok-concl.ensures.0 in
    let counted = c.size.ensures in
    let taken = c.requires.taken in
    condition_over c.args.inst.now c.args.cond.now c.requires.ready c.args.before.now c.requires.few c.in_ok-concl.concl c.in_ok-concl.ensures.0 (omega (arith, small, same, counted, taken))

pub returns : goal.returns
returns c =
    let small = (small_is (term_of (instance_of c.args.inst.now) c.args.cond.now) c.in_ok-concl.ensures.1).size in
    let same = ap size_of c.in_ok-concl.ensures.0 in
    let counted = c.size.ensures in
    let taken = c.requires.taken in (
      left_is c.args.inst.now c.args.cond.now c.requires.ready c.args.before.now c.requires.few c.in_ok-concl.concl c.in_ok-concl.ensures.0 c.in_ok-hyps.hyps c.in_ok-hyps.ensures,
      condition_fits c.args.inst.now c.args.cond.now c.requires.ready c.args.before.now c.requires.few c.in_ok-concl.concl c.in_ok-concl.ensures.0 c.in_ok-concl.ensures.1 (omega (arith, small, same, counted, taken)),
    )
