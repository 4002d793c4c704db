use Rattle.std.proofs.Common.{◌∙◌, ◌≡◌, ℕ, Option, Some, None, sym, subst}
use Rattle.std.specs.Prelude.{slice_get, option_and_then}
use Rattle.mp_theory.specs.Tables.{rule_in}
use Rattle.mp_theory.proofs.LookUps.{kind_there, kind_absent, one_place, no_place}
use Rattle.mp_theory.proofs.theory.Theory.rule_named.Goals as goal

pub returns-in_err-place : goal.returns-in_err-place
returns-in_err-place c =
    let found = c.in_err-place.ensures in
    c.from_residual.ensures ∙ sym (kind_absent rule_in c.args.self.now.laws c.args.name found.theory.apart (λ place e. absurd (no_place _ place found.place e)))

pub returns-in-Some : goal.returns-in-Some
returns-in-Some c =
    let found = c.in_ok-place.ensures in
    sym (kind_there rule_in c.args.self.now.laws c.args.name c.in_ok-place.place c.in-Some.field-0.now found.theory.apart (sym found.place) (sym c.in-Some.ensures.rule))

pub returns-in-None : goal.returns-in-None
returns-in-None c =
    let found = c.in_ok-place.ensures in
    sym (kind_absent rule_in c.args.self.now.laws c.args.name found.theory.apart
    (λ place e. subst (λ i. option_and_then rule_in (slice_get c.args.self.now.laws i) ≡ None) (one_place _ c.in_ok-place.place place found.place e) (sym c.in-None.ensures.rule)))
