use Rattle.mp_schema.proofs.Laws.{rules_are_faultless}
use Rattle.mp_theory.proofs.needs.find_needs.Goals as goal

pub gather_schema-requires : goal.gather_schema-requires
gather_schema-requires c = (rules_are_faultless c.args.premises.now c.args.concl.now c.requires).limited_end

pub gather_premises-requires : goal.gather_premises-requires
gather_premises-requires c = rw c.as_slice.ensures (rules_are_faultless c.args.premises.now c.args.concl.now c.requires).limited
