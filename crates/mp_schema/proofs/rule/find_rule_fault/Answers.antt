use Rattle.std.proofs.Common.{sym, ap, ◌∙◌}
use Rattle.std.specs.List.{flat_map}
use Rattle.std.specs.Option.{option_or}
use Rattle.mp_schema.specs.Conditions.{has_all}
use Rattle.mp_schema.specs.Faults.{late_fault, occurrences_of_rule, rule_is_consistent, rule_is_filled, rule_fault_of}
use Rattle.mp_schema.specs.Occurrences.{holes_in_schema}
use Rattle.mp_schema.specs.Tables.{names_met}
use Rattle.mp_schema.proofs.Befores.{has_all-same}
use Rattle.mp_schema.proofs.Entering.{held_like_first}
use Rattle.mp_schema.proofs.HoleNames.{has_met}
use Rattle.mp_schema.proofs.rule.find_rule_fault.Goals as goal

pub returns : goal.returns
unfolding rule_is_consistent rule_is_filled
returns c =
    let premises = c.as_slice-premises.result.now in
    let concl = c.args.concl.now in
    let holes = c.in_ok-holes.holes in
    let os = occurrences_of_rule premises concl in
    let names = flat_map holes_in_schema premises in
    let consistent = held_like_first c.in_ok-uses.uses os c.in_ok-uses.ensures os in
    let filled = has_all-same (names_met holes) (holes_in_schema concl) (λ name. sym (has_met holes name) ∙ c.in_ok-holes.ensures name) names in
    c.late_rule_fault.ensures
    ∙ ap (λ b. late_fault b (has_all (names_met holes) names)) consistent
    ∙ ap (late_fault (rule_is_consistent premises concl)) filled
    ∙ ap (λ early. option_or early (late_fault (rule_is_consistent premises concl) (rule_is_filled premises concl))) (sym c.in_default.is)
    ∙ sym c.early_rule_fault.ensures
    ∙ ap (λ ps. rule_fault_of ps concl) c.as_slice-premises.ensures
