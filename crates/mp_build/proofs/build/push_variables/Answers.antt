use Rattle.std.proofs.Common.{arith, rules}
use Rattle.mp_build.proofs.Grounds.{pushed_variable}
use Rattle.mp_build.proofs.build.push_variables.Goals as goal

pub loop-level-preserved : goal.loop-level-preserved
loop-level-preserved c = pushed_variable _ c.loop-level.terms.items _ c.args.first c.loop-level.level (omega arith) c.loop-level.invariant (search rules)
