use Rattle.mp_theorytext.proofs.Adding.{no_rewrite_fault}
use Rattle.mp_theorytext.proofs.Narrow.{rewrite_conds, rewrite_contractum, rewrite_redex}
use Rattle.mp_theorytext.proofs.making.add_written_rewrite.Goals as goal

pub take_conditions-requires : goal.take_conditions-requires
take_conditions-requires c = record { faultless = rewrite_conds c.args.raw c.requires.faultless }

pub take_pattern-requires : goal.take_pattern-requires
take_pattern-requires c = record { faultless = rewrite_redex c.args.raw c.requires.faultless }

pub take_pattern-requires-2 : goal.take_pattern-requires-2
take_pattern-requires-2 c = record { faultless = rewrite_contractum c.args.raw c.requires.faultless }

pub unreachable-requires-in-Err-Schema : goal.unreachable-requires-in-Err-Schema
unreachable-requires-in-Err-Schema c =
    no_rewrite_fault c.args.raw c.args.theory.now c.in_ok-conds.conds c.in_ok-redex.redex c.in_ok-contractum.contractum c.in-Err-Schema.field-0 c.in-Err-Schema.field-0-0 c.requires.faultless c.requires.free c.in_ok-conds.ensures c.in_ok-redex.ensures
    c.in_ok-contractum.ensures c.in-Err-Schema.field-0-is c.in-Err-Schema.ensures.refusal
