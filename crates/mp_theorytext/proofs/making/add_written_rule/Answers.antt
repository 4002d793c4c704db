use Rattle.std.proofs.Common.{refl}
use Rattle.mp_theorytext.proofs.Adding.{no_rule_fault}
use Rattle.mp_schematext.proofs.Narrow.{rule_concl, rule_premises}
use Rattle.mp_theorytext.proofs.making.add_written_rule.Goals as goal

pub take_premises-requires : goal.take_premises-requires
take_premises-requires c = record { faultless = rule_premises c.args.raw c.requires.faultless c.args.raw.premises refl }

pub take_schema-requires : goal.take_schema-requires
take_schema-requires c = record { faultless = rule_concl c.args.raw c.requires.faultless }

pub unreachable-requires-in-Err-Schema : goal.unreachable-requires-in-Err-Schema
unreachable-requires-in-Err-Schema c =
    no_rule_fault c.args.raw c.args.theory.now c.in_ok-premises.premises c.in_ok-concl.concl c.in-Err-Schema.field-0 c.in-Err-Schema.field-0-0 c.requires.faultless c.requires.free c.in_ok-premises.ensures c.in_ok-concl.ensures c.in-Err-Schema.field-0-is
    c.in-Err-Schema.ensures.refusal
