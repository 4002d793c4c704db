use Rattle.std.proofs.Common.{map, ap, ◌∙◌, sym}
use Rattle.std.specs.Prelude.{slice_get}
use Rattle.std.specs.Option.{option_map}
use Rattle.std.proofs.lemmas.Option.{slice_get-map}
use Rattle.mp_theory.specs.Tables.{Laws}
use Rattle.mp_theory.proofs.Entries.{law_in}
use Rattle.mp_theory.proofs.LookUps.{law_at}
use Rattle.mp_theory.proofs.theory.Theory.law.Goals as goal

pub returns-in-Some-clause-whole : goal.returns-in-Some-clause-whole
returns-in-Some-clause-whole c =
    let es = c.self.inside.laws.entries in
    law_at (map law_in es) c.args.place c.in-Some.law.now c.self.invariant.1.laws (slice_get-map law_in es c.args.place ∙ ap (option_map law_in) (sym c.in-Some.ensures.entry))

pub returns-in-None-clause-law : goal.returns-in-None-clause-law
returns-in-None-clause-law c =
    let es = c.self.inside.laws.entries in
    ap (option_map law_in) c.in-None.ensures.entry ∙ sym (slice_get-map law_in es c.args.place) ∙ ap (λ (t : Laws). slice_get t.laws c.args.place) c.self.view_is
