use Rattle.std.proofs.Common.{◌≡◌, ◌++◌, ◌∷◌, [], subst, sym, ap, ◌∙◌}
use Rattle.std.specs.Prelude.{nat_eq}
use Rattle.std.specs.Map.{lookup}
use Rattle.indexmap.proofs.CallerLemmas.{insert_entry-new}
use Rattle.mp_schema.specs.Named.{AreNamed}
use Rattle.mp_schema.specs.Values.{find_param}
use Rattle.mp_schema.proofs.Entries.{param_name, param-by_key, named-push, entered, no_value}
use Rattle.mp_schema.proofs.named.ParamVals.push.Goals.{in-Ok, in-Err}
use Rattle.mp_schema.proofs.named.ParamVals.push.Goals as goal

pub invariant_of-self : goal.invariant_of-self
invariant_of-self c =
    let es = c.self.inside.values.entries in
    let fresh = no_value (lookup (nat_eq c.args.value.name.0) es)
    (param-by_key es c.args.value.name c.self.invariant ∙ ap (λ vs. find_param vs c.args.value.name) c.self.view_is ∙ c.requires) in
    elim c.match-insert.branch [
      | in-Ok w ↦
          let is : c.insert.new.self.entries ≡ es ++ (c.args.value.name.0, c.args.value) ∷ [] = w.in-Ok.ensures.entries ∙ insert_entry-new nat_eq c.self.inside.values c.args.value.name.0 c.args.value fresh in
          subst (AreNamed param_name) (sym is) (named-push param_name es c.args.value c.self.invariant)
      | in-Err w ↦ subst (AreNamed param_name) (sym w.in-Err.ensures.err) c.self.invariant
    ]

pub returns-clause-ok : goal.returns-clause-ok
returns-clause-ok c =
    let es = c.self.inside.values.entries in
    let fresh = no_value (lookup (nat_eq c.args.value.name.0) es)
    (param-by_key es c.args.value.name c.self.invariant ∙ ap (λ vs. find_param vs c.args.value.name) c.self.view_is ∙ c.requires) in
    elim c.match-insert.branch [
      | in-Ok w ↦
          let is : c.insert.new.self.entries ≡ es ++ (c.args.value.name.0, c.args.value) ∷ [] = w.in-Ok.ensures.entries ∙ insert_entry-new nat_eq c.self.inside.values c.args.value.name.0 c.args.value fresh in
          rw w.result-is (entered param_name es c.insert.new.self.entries c.args.value c.args.self.now is c.self.view_is)
      | in-Err w ↦ rw w.result-is tt
    ]
