use Rattle.std.proofs.Common.{arith}
use Rattle.std.proofs.lemmas.Bool.Decides.{nat_tests}
use Rattle.std.proofs.lemmas.Result.{err_from_is_err_and}
use Rattle.mp_schema.specs.Values.{instance_of}
use Rattle.mp_build.proofs.SequentSizes.{limits-seq, schema_over}
use Rattle.mp_build.proofs.limits.check_limits.Goals as goal

pub returns-then-count_hyps-gt-MOST_HYPOTHESES : goal.returns-then-count_hyps-gt-MOST_HYPOTHESES
returns-then-count_hyps-gt-MOST_HYPOTHESES c =
    let e = limits-seq (instance_of c.args.inst.now) c.args.schema.now in
    let many = rw c.as_slice.ensures at c.count_hyps.ensures in
    rw e (grind (arith, nat_tests, many))

pub returns-in_err-weigh_schema : goal.returns-in_err-weigh_schema
returns-in_err-weigh_schema c =
    let p = err_from_is_err_and c.from_residual.result c.from_residual.ensures.1 in
    rw (p.1, p.2) (schema_over (instance_of c.args.inst.now) c.args.schema.now _ c.in_err-weigh_schema.ensures)

pub returns : goal.returns
returns c =
    let e = limits-seq (instance_of c.args.inst.now) c.args.schema.now in
    let many = rw c.as_slice.ensures at c.count_hyps.ensures in
    let small = c.in_ok-weigh_schema.ensures.small in
    let shallow = c.in_ok-weigh_schema.ensures.shallow in
    rw e (grind (arith, nat_tests, many, small, shallow))
