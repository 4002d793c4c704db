use Rattle.std.proofs.Common.{ap, ◌∙◌}
use Rattle.mp_schema.specs.Values.{find_meta}
use Rattle.mp_schema.proofs.Entries.{meta-by_key}
use Rattle.mp_schema.proofs.named.MetaVals.get.Goals as goal

pub returns : goal.returns
returns c = c.get.ensures.value ∙ meta-by_key c.self.inside.values.entries c.args.name c.self.invariant ∙ ap (λ vs. find_meta vs c.args.name) c.self.view_is
