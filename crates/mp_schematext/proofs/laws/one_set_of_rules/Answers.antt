use Rattle.mp_schematext.proofs.RuleTells as rules
use Rattle.mp_schematext.proofs.laws.one_set_of_rules.Goals as goal

pub returns : goal.returns
returns c = rules.one_set_of_rules
