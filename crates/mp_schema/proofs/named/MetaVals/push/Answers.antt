use Rattle.std.proofs.Common.{◌≡◌, ◌++◌, ◌∷◌, [], subst, sym, ap, ◌∙◌}
use Rattle.indexmap.proofs.CallerLemmas.{insert_entry-new}
use Rattle.mp_schema.specs.Named.{AreNamed}
use Rattle.mp_schema.specs.Values.{find_meta}
use Rattle.std.specs.Prelude.{nat_eq}
use Rattle.mp_schema.proofs.Entries.{meta_name, meta-by_key, named-push, entered}
use Rattle.mp_schema.proofs.named.MetaVals.push.Goals as goal

pub invariant_of-self : goal.invariant_of-self
invariant_of-self c =
    let es = c.self.inside.values.entries in
    let fresh = meta-by_key es c.args.value.name c.self.invariant ∙ ap (λ vs. find_meta vs c.args.value.name) c.self.view_is ∙ c.requires in
    let is : c.insert.new.self.entries ≡ es ++ (c.args.value.name.0, c.args.value) ∷ [] = c.in-Ok.ensures.entries ∙ insert_entry-new nat_eq c.self.inside.values c.args.value.name.0 c.args.value fresh in
    subst (AreNamed meta_name) (sym is) (named-push meta_name es c.args.value c.self.invariant)

pub returns-in-Ok-clause-ok : goal.returns-in-Ok-clause-ok
returns-in-Ok-clause-ok c =
    let es = c.self.inside.values.entries in
    let fresh = meta-by_key es c.args.value.name c.self.invariant ∙ ap (λ vs. find_meta vs c.args.value.name) c.self.view_is ∙ c.requires in
    let is : c.insert.new.self.entries ≡ es ++ (c.args.value.name.0, c.args.value) ∷ [] = c.in-Ok.ensures.entries ∙ insert_entry-new nat_eq c.self.inside.values c.args.value.name.0 c.args.value fresh in
    entered meta_name es c.insert.new.self.entries c.args.value c.args.self.now is c.self.view_is
