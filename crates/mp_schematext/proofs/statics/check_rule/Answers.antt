use Rattle.std.proofs.Common.{◌∙◌}
use Rattle.mp_schematext.proofs.FaultWalks.{rule_parts}
use Rattle.mp_schematext.proofs.statics.check_rule.Goals as goal

pub check_frame-held-requires : goal.check_frame-held-requires
check_frame-held-requires c = c.as_slice-3.ensures.value ∙ c.in_ok-concl.ensures

pub returns : goal.returns
returns c =
    rule_parts c.args.raw.now c.in_ok-concl.concl.items c.as_slice-2.result.now c.as_slice.result.now c.args.held c.check_premise_count-held.result c.in_ok-held.held c.check_frame-held.result c.in_ok-held-2.held c.in_ok-held-3.held
    c.in_ok-found.found c.in_ok-concl.ensures c.as_slice-2.ensures.value c.as_slice.ensures c.check_premise_count-held.ensures c.in_ok-held.ensures c.check_frame-held.ensures c.in_ok-held-2.ensures c.in_ok-held-3.ensures c.in_ok-found.ensures
