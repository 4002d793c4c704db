use Rattle.std.proofs.Common.{◌++◌, sym, ap, ◌∙◌, append_assoc}
use Rattle.std.specs.List.{flat_map}
use Rattle.std.specs.Option.{option_map}
use Rattle.mp_schema.specs.Occurrences.{occurrences_in, first_named}
use Rattle.mp_schema.specs.Places.{occurrence_at}
use Rattle.mp_schema.proofs.Finding.{first_here, first_later}
use Rattle.mp_schema.proofs.uses.first_in_rewrite.Goals as goal

pub returns-in-Some : goal.returns-in-Some
returns-in-Some c =
    let a = c.args in
    sym (ap (λ os. first_named os a.name) (append_assoc (flat_map occurrences_in a.conds.now) (occurrences_in a.redex.now) (occurrences_in a.contractum.now))
    ∙ first_here _ (occurrences_in a.redex.now ++ occurrences_in a.contractum.now) a.name _ c.in-Some.ensures)

pub returns-in-Some-first_in_pattern : goal.returns-in-Some-first_in_pattern
returns-in-Some-first_in_pattern c =
    let a = c.args in
    let none = ap (option_map occurrence_at) (sym c.in_default.is) ∙ c.first_in_patterns.ensures in
    sym (ap (λ os. first_named os a.name) (append_assoc (flat_map occurrences_in a.conds.now) (occurrences_in a.redex.now) (occurrences_in a.contractum.now))
    ∙ (first_later _ (occurrences_in a.redex.now ++ occurrences_in a.contractum.now) a.name none
    ∙ first_here _ (occurrences_in a.contractum.now) a.name _ c.in-Some-first_in_pattern.ensures))

pub returns-in-None : goal.returns-in-None
returns-in-None c =
    let a = c.args in
    let none = ap (option_map occurrence_at) (sym c.in_default.is) ∙ c.first_in_patterns.ensures in
    c.first_in_pattern-in-None.ensures
    ∙ sym (ap (λ os. first_named os a.name) (append_assoc (flat_map occurrences_in a.conds.now) (occurrences_in a.redex.now) (occurrences_in a.contractum.now))
    ∙ (first_later _ (occurrences_in a.redex.now ++ occurrences_in a.contractum.now) a.name none
    ∙ first_later _ (occurrences_in a.contractum.now) a.name c.in-None.ensures))
