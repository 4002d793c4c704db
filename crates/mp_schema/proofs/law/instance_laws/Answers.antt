use Rattle.mp_schema.proofs.Laws.{goals_have_one_instance}
use Rattle.mp_schema.proofs.law.instance_laws.Goals as goal

pub returns : goal.returns
returns c = goals_have_one_instance
