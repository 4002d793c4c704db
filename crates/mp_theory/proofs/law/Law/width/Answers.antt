use Rattle.std.proofs.Common.{arith}
use Rattle.mp_theory.proofs.LookUps.{rule_narrow, rewrite_narrow}
use Rattle.mp_theory.proofs.law.Law.width.Goals as goal

pub overflow_cast-result : goal.overflow_cast-result
overflow_cast-result c =
    let few = rule_narrow c.args.self.now _ c.requires c.in-Rule.is in
    let e = c.len.ensures in
    record { fits = omega arith }

pub overflow_cast-result-in-Rewrite : goal.overflow_cast-result-in-Rewrite
overflow_cast-result-in-Rewrite c =
    let few = rewrite_narrow c.args.self.now _ c.requires c.in-Rewrite.is in
    let e = c.len-in-Rewrite.ensures in
    record { fits = omega arith }

pub overflow_add-result : goal.overflow_add-result
overflow_add-result c =
    let few = rewrite_narrow c.args.self.now _ c.requires c.in-Rewrite.is in
    let e = c.len-in-Rewrite.ensures in
    record { fits = omega arith }
