use Rattle.std.proofs.Common.{ap, ◌∙◌, nat_eq, map}
use Rattle.std.specs.List.{list_any}
use Rattle.std.proofs.lemmas.Map.Made.{is_some-lookup}
use Rattle.mp_theory.specs.Tables.{name_taken}
use Rattle.mp_theory.proofs.theory.Theory.is_taken.Goals as goal

pub returns : goal.returns
returns c =
    let n = c.args.name in
    c.contains_key.ensures
    ∙ is_some-lookup (nat_eq n.0) c.self.inside.laws.entries
    ∙ ap (list_any (nat_eq n.0)) c.self.invariant.2
    ∙ ap (λ t. name_taken t n) c.self.view_is
