-- A schema that is written has the size and the holes of what it stands for.
use Rattle.std.proofs.Common.{◌≡◌, ◌+◌, ◌++◌, List, [], ◌∷◌, map, sum, refl, sym, ◌∙◌}
use Rattle.std.specs.List.{flat_map}
use Rattle.mp_logic.specs.declared.sym.Sym.{Sym}
use Rattle.mp_schema.specs.Limits.{item_size_of, schema_size_of}
use Rattle.mp_schema.specs.Occurrences.{holes_in_item, holes_in_schema}
use Rattle.mp_schematext.specs.declared.raw.RawItem.{RawItem}
use Rattle.mp_schematext.specs.declared.raw.RawSchema.{RawSchema}
use Rattle.mp_patterntext.specs.Scopes.{syms_of}
use Rattle.mp_schematext.specs.Scopes.{env_past, env_behind}
use Rattle.mp_schematext.specs.Values.{item_of, items_of, schema_of}
use Rattle.mp_patterntext.specs.Uses.{raw_holes}
use Rattle.mp_schematext.specs.Uses.{raw_item_holes, raw_schema_holes}
use Rattle.mp_schematext.specs.Statics.{raw_item_size_of, raw_schema_size_of}
use Rattle.mp_patterntext.proofs.SizesAndHoles.{both_sums, same_size, each_same_size, syms_both, same_holes, each_same_holes}
use Rattle.mp_schematext.specs.declared.raw.RawItem.TheVariants as item

-- ## Sizes

item_size : (i : RawItem) (env : List Sym) → item_size_of (item_of i env) ≡ raw_item_size_of i
item_size (item.Ctx n cs xs l) env = each_same_size xs env
item_size (item.Hyp n p l) env = same_size p env

items_size : (is : List RawItem) (env : List Sym) → sum (map item_size_of (items_of is env)) ≡ sum (map raw_item_size_of is)
items_size [] env = refl
items_size (i ∷ is) env = both_sums _ _ (map item_size_of (items_of is (env_past i env))) (map raw_item_size_of is) (item_size i env) (items_size is (env_past i env))

pub schema_size : (s : RawSchema) → schema_size_of (schema_of s) ≡ raw_schema_size_of s
schema_size s = (λ k. items_size s.items [] k + same_size s.concl (env_behind s.items []) k)

-- ## Holes

item_holes : (i : RawItem) (env : List Sym) → holes_in_item (item_of i env) ≡ syms_of (raw_item_holes i)
item_holes (item.Ctx n cs xs l) env = each_same_holes xs env
item_holes (item.Hyp n p l) env = same_holes p env

items_holes : (is : List RawItem) (env : List Sym) → flat_map holes_in_item (items_of is env) ≡ syms_of (flat_map raw_item_holes is)
items_holes [] env = refl
items_holes (i ∷ is) env = (λ k. item_holes i env k ++ items_holes is (env_past i env) k) ∙ sym (syms_both (raw_item_holes i) (flat_map raw_item_holes is))

pub schema_holes : (s : RawSchema) → holes_in_schema (schema_of s) ≡ syms_of (raw_schema_holes s)
schema_holes s = (λ k. items_holes s.items [] k ++ same_holes s.concl (env_behind s.items []) k) ∙ sym (syms_both (flat_map raw_item_holes s.items) (raw_holes s.concl))

pub schemata_holes : (ss : List RawSchema) → flat_map holes_in_schema (map schema_of ss) ≡ syms_of (flat_map raw_schema_holes ss)
schemata_holes [] = refl
schemata_holes (s ∷ ss) = (λ k. schema_holes s k ++ schemata_holes ss k) ∙ sym (syms_both (raw_schema_holes s) (flat_map raw_schema_holes ss))
