use Rattle.std.proofs.Common.{◌≡◌, ◌+◌, [], ap, sym, ◌∙◌, drop, is_some, true, false}
use Rattle.std.specs.List.{flat_map}
use Rattle.mp_words.specs.Faults.{least_from}
use Rattle.mp_words.proofs.FaultParts.{flat_next}
use Rattle.mp_words.proofs.Walks.{left_cons}
use Rattle.mp_steptext.specs.Names.{all_met, given_numbers}
use Rattle.mp_steptext.specs.Statics.{given_of, missing_faults}
use Rattle.mp_steptext.proofs.Behind.{missing_behind, missing_found, none_missing}
use Rattle.mp_steptext.proofs.MetNames.{given_there}
use Rattle.mp_steptext.proofs.statics.check_missing.Goals as goal

pub returns-then-behind : goal.returns-then-behind
returns-then-behind g c = sym (missing_behind c.args.held c.args.raw.now c.args.needs.now (sym c.behind.ensures ∙ c.if-behind.true))

pub returns-then-is_none : goal.returns-then-is_none
returns-then-is_none g c =
    let s = c.args.raw.now in
    let needs = c.args.needs.now in
    let i = c.loop-need.need-index in
    let need = c.need-item.result in
    let names = c.in_ok-names.ensures ∙ ap (λ gs. all_met [] (given_numbers gs)) c.as_slice.ensures in
    let none : is_some (given_of s.given need.name) ≡ false = sym (given_there s.given c.in_ok-names.names need.name names) ∙ ap is_some (sym c.place.ensures) ∙ c.if-is_none.ensures in
    c.sooner_of.ensures ∙ sym (missing_found c.args.held s need (drop (i + 1) needs) none)
    ∙ ap (λ ns. least_from c.args.held (flat_map (missing_faults s) ns)) (sym (left_cons needs i need c.loop-need-test.true c.need-item.is)) ∙ c.loop-need.invariant

pub loop-need-preserved : goal.loop-need-preserved
loop-need-preserved g c =
    let s = c.args.raw.now in
    let need = c.need-item.result in
    let names = c.in_ok-names.ensures ∙ ap (λ gs. all_met [] (given_numbers gs)) c.as_slice.ensures in
    let there : is_some (given_of s.given need.name) ≡ true = sym (given_there s.given c.in_ok-names.names need.name names) ∙ ap is_some (sym c.place.ensures) ∙ c.if-is_none.ensures in
    flat_next (missing_faults s) c.args.needs.now c.loop-need.need-index need c.args.held c.args.held _ c.loop-need-test.true c.need-item.is (none_missing c.args.held s need there) c.loop-need.invariant
