use Rattle.std.proofs.Common.{◌∙◌}
use Rattle.mp_schematext.specs.Scopes.{env_behind}
use Rattle.mp_schematext.proofs.Narrow.{schema_concl, schema_items}
use Rattle.mp_schematext.proofs.value.build_schema.Goals as goal

pub build_items-requires : goal.build_items-requires
build_items-requires c = record { faultless = schema_items c.args.raw.now c.requires.faultless c.as_slice.result.now c.new-env.result.items c.as_slice.ensures c.new-env.ensures.items }

pub build_pattern-requires : goal.build_pattern-requires
build_pattern-requires c = record {
  faultless = schema_concl c.args.raw.now c.requires.faultless c.build_items.new.env.items (c.in_ok-items.ensures.env ∙ (λ i. env_behind (c.as_slice.ensures i) (c.new-env.ensures.items i)));
}
