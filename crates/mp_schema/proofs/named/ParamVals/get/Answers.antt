use Rattle.std.proofs.Common.{ap, ◌∙◌}
use Rattle.std.specs.Option.{option_map}
use Rattle.mp_schema.specs.declared.instance.ParamVal.{ParamVal}
use Rattle.mp_schema.specs.Values.{find_param}
use Rattle.mp_schema.proofs.Entries.{param-by_key}
use Rattle.mp_schema.proofs.named.ParamVals.get.Goals as goal

pub returns-in-Some : goal.returns-in-Some
returns-in-Some c =
    ap (option_map (λ (x : ParamVal). x.value)) c.in-Some.ensures.value ∙ param-by_key c.self.inside.values.entries c.args.name c.self.invariant ∙ ap (λ vs. find_param vs c.args.name) c.self.view_is

pub returns-in-None : goal.returns-in-None
returns-in-None c =
    ap (option_map (λ (x : ParamVal). x.value)) c.in-None.ensures.value ∙ param-by_key c.self.inside.values.entries c.args.name c.self.invariant ∙ ap (λ vs. find_param vs c.args.name) c.self.view_is
