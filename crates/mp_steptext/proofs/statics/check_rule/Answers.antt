use Rattle.std.proofs.Common.{ap, sym, subst, ◌∙◌}
use Rattle.std.specs.List.{flat_map}
use Rattle.mp_words.specs.Faults.{least_from}
use Rattle.mp_words.proofs.FaultParts.{three_parts}
use Rattle.mp_steptext.specs.Names.{AreNew, need_numbers}
use Rattle.mp_steptext.specs.Statics.{all_given_faults, missing_faults, place_faults}
use Rattle.mp_steptext.proofs.DistinctNeeds.{needs_new}
use Rattle.mp_steptext.proofs.statics.check_rule.Goals as goal

pub check_all_given-requires : goal.check_all_given-requires
check_all_given-requires g c = subst (λ ns. AreNew (need_numbers ns)) (sym c.as_slice-2.ensures) (needs_new c.args.rule.now c.requires)

pub returns : goal.returns
returns g c =
    let rule = c.args.rule.now in
    let s = c.args.raw.now in
    three_parts c.args.held c.check_place-held.result c.in_ok-held.held c.in_ok-found.found (place_faults rule s s.place) (flat_map (missing_faults s) rule.needs) (all_given_faults g.B.Body.arity g.B.Body.faults rule.needs s.given)
    c.check_place-held.ensures
    (c.in_ok-held.ensures ∙ ap (λ ns. least_from c.check_place-held.result (flat_map (missing_faults s) ns)) c.as_slice.ensures)
    (c.in_ok-found.ensures ∙ (λ i. least_from c.in_ok-held.held (all_given_faults g.B.Body.arity g.B.Body.faults (c.as_slice-2.ensures i) (c.as_slice-3.ensures i))))
