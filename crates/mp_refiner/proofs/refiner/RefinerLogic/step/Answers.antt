use Rattle.mp_refiner.proofs.Stepping.{answer_good, answer_narrow, rewrite_good, rewrite_narrow}
use Rattle.mp_refiner.proofs.refiner.RefinerLogic.step.Goals as goal

pub returns-in-Some-clause-good : goal.returns-in-Some-clause-good
returns-in-Some-clause-good c = answer_good c.args.goal.now c.rule_step.result c.in-Some.rule.now _ _ c.rule_step.ensures

pub returns-in-Some-clause-narrow : goal.returns-in-Some-clause-narrow
returns-in-Some-clause-narrow c = answer_narrow c.args.goal.now c.rule_step.result c.in-Some.rule.now _ _ c.rule_step.ensures c.args.self.now _ (rw c.self.view_is at c.in-Some.ensures.rule)

pub returns-in-Some-rewrite-clause-good : goal.returns-in-Some-rewrite-clause-good
returns-in-Some-rewrite-clause-good c = rewrite_good c.args.goal.now c.apply.result c.in-Some-rewrite.rewrite.now _ _ c.apply.ensures

pub returns-in-Some-rewrite-clause-narrow : goal.returns-in-Some-rewrite-clause-narrow
returns-in-Some-rewrite-clause-narrow c =
    rewrite_narrow c.args.goal.now c.apply.result c.in-Some-rewrite.rewrite.now _ _ c.apply.ensures c.args.self.now _ (rw c.self.view_is at c.in-Some-rewrite.ensures.rewrite)
