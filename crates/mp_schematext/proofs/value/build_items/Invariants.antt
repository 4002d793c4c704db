use Rattle.std.proofs.Common.{◌≡◌, ◌++◌, drop}
use Rattle.mp_schematext.specs.Buildable.{AreFaultlessItems}
use Rattle.mp_schematext.specs.Scopes.{env_behind}
use Rattle.mp_schematext.specs.Values.{items_of}
use Rattle.mp_schematext.proofs.value.build_items.Given as goal

abbrev pub invariant-loop-raw : goal.invariant-loop-raw
invariant-loop-raw l = record {
  faultless : AreFaultlessItems (drop l.raw-index l.items) l.env.items;
  bound : env_behind (drop l.raw-index l.items) l.env.items ≡ env_behind l.items l.fn.env.items;
  built : l.built ++ items_of (drop l.raw-index l.items) l.env.items ≡ items_of l.items l.fn.env.items;
}
