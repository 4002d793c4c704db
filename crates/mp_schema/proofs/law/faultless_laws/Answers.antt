use Rattle.mp_schema.proofs.Laws.{rules_are_faultless, rewrites_are_faultless}
use Rattle.mp_schema.proofs.law.faultless_laws.Goals as goal

pub returns-clause-rules : goal.returns-clause-rules
returns-clause-rules c = rules_are_faultless

pub returns-clause-rewrites : goal.returns-clause-rewrites
returns-clause-rewrites c = rewrites_are_faultless
