use Rattle.std.proofs.Common.{arith}
use Rattle.mp_build.proofs.RowLists.{variable_next, all_same}
use Rattle.mp_build.proofs.build.are_variables.Goals as goal

pub loop-i-preserved : goal.loop-i-preserved
loop-i-preserved c =
    variable_next c.args.terms.now c.loop-i.i c.index-terms-i.result c.loop-i-test.true c.index-terms-i.is (c.is_variable.ensures c.if-not-is_variable.false) c.loop-i.invariant

pub returns : goal.returns
returns c = λ _. all_same c.args.terms.now c.loop-i.i c.args.n (omega arith) (omega arith) c.loop-i.invariant
