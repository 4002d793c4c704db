-- What schemata stand for that are written.
use Rattle.std.specs.Prelude.{List, [], ◌∷◌, map}
use Rattle.mp_schema.specs.declared.schema.Item.{Item}
use Rattle.mp_schema.specs.declared.schema.Item.TheVariants.{Ctx, Hyp}
use Rattle.mp_schema.specs.declared.schema.Schema.{Schema}
use Rattle.mp_schematext.specs.declared.raw.RawItem.{RawItem}
use Rattle.mp_schematext.specs.declared.raw.RawSchema.{RawSchema}
use Rattle.mp_patterntext.specs.Scopes.{syms_of}
use Rattle.mp_schematext.specs.Scopes.{env_past, env_behind}
use Rattle.mp_patterntext.specs.Values.{Valued, each_pattern_value, pattern_of}
use Rattle.mp_schematext.specs.declared.raw.RawItem.TheVariants as item

-- the item that is written
abbrev pub item_of : RawItem → Valued Item
item_of (item.Ctx name ctxs args at) env = Ctx name.name (syms_of ctxs) (each_pattern_value (map pattern_of args) env)
item_of (item.Hyp name pattern at) env = Hyp (pattern_of pattern env)

-- the items that are written, each after those before it
abbrev pub items_of : List RawItem → Valued (List Item)
items_of [] env = []
items_of (i ∷ is) env = item_of i env ∷ items_of is (env_past i env)

-- the schema that is written
abbrev pub schema_of : RawSchema → Schema
schema_of s = record { items = items_of s.items []; concl = pattern_of s.concl (env_behind s.items []) }
