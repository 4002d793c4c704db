use Rattle.std.proofs.Common.{ap, ◌∙◌}
use Rattle.std.specs.Prelude.{is_none}
use Rattle.mp_theory.specs.Tables.{place_of_rewrite}
use Rattle.mp_words.specs.declared.fail.TextWhy.TheVariants as why
use Rattle.mp_words.specs.Faults.{fault_if, least_from}
use Rattle.mp_words.proofs.FaultParts.{three_parts}
use Rattle.mp_steptext.specs.Statics.{address_faults, hypothesis_faults}
use Rattle.mp_steptext.proofs.KeptSteps.{none_by}
use Rattle.mp_steptext.proofs.statics.check_rewrite_step.Goals as goal

pub returns : goal.returns
returns c =
    let t = c.args.theory.now in
    let s = c.args.raw.now in
    let unknown = none_by c.rewrite_named.result c.is_none-unknown.result c.is_none-unknown.ensures ∙ ap is_none c.rewrite_named.ensures in
    three_parts c.args.held c.check_hypothesis-held.result c.check_address-held.result c.sooner_if.result (hypothesis_faults s.place) (address_faults s.address) (fault_if (is_none (place_of_rewrite t s.rewrite.name)) s.rewrite.at why.UnknownName)
    c.check_hypothesis-held.ensures
    (c.check_address-held.ensures ∙ ap (λ ns. least_from c.check_hypothesis-held.result (address_faults ns)) c.as_slice.ensures)
    (c.sooner_if.ensures ∙ ap (λ b. least_from c.check_address-held.result (fault_if b s.rewrite.at why.UnknownName)) unknown)
