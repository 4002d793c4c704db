-- The uses in what is written are the occurrences in what it stands for.
use Rattle.std.proofs.Common.{◌≡◌, List, [], ◌∷◌, map, true, refl}
use Rattle.std.specs.List.{flat_map}
use Rattle.mp_logic.specs.declared.sym.Sym.{Sym}
use Rattle.mp_schema.specs.Faults.{is_consistent, occurrences_of_rule}
use Rattle.mp_schema.specs.Occurrences.{occurrences_in, occurrences_in_item, occurrences_in_schema}
use Rattle.mp_schematext.specs.declared.raw.RawItem.{RawItem}
use Rattle.mp_schematext.specs.declared.raw.RawSchema.{RawSchema}
use Rattle.mp_schematext.specs.declared.raw.RawRule.{RawRule}
use Rattle.mp_schematext.specs.Scopes.{env_past, env_behind}
use Rattle.mp_patterntext.specs.Uses.{uses_faults, uses_in}
use Rattle.mp_schematext.specs.Uses.{uses_in_item, uses_in_rule, uses_in_schema}
use Rattle.mp_patterntext.specs.Values.{pattern_of}
use Rattle.mp_schematext.specs.Values.{item_of, items_of, schema_of}
use Rattle.mp_patterntext.proofs.Telling.{Tells}
use Rattle.mp_patterntext.proofs.LikeUses.{Same, same_both, here, same_uses, each_uses, tells_uses}
use Rattle.mp_schematext.specs.declared.raw.RawItem.TheVariants as item

-- ## The same uses

item_uses : (i : RawItem) (env : List Sym) → Same (uses_in_item i) (occurrences_in_item (item_of i env))
item_uses (item.Ctx n cs xs l) env = (λ i. here true n.name n.at cs xs env i ∷ each_uses xs env i)
item_uses (item.Hyp n p l) env = same_uses p env

items_uses : (is : List RawItem) (env : List Sym) → Same (flat_map uses_in_item is) (flat_map occurrences_in_item (items_of is env))
items_uses [] env = refl
items_uses (i ∷ is) env = same_both (uses_in_item i) (flat_map uses_in_item is) (occurrences_in_item (item_of i env)) (flat_map occurrences_in_item (items_of is (env_past i env))) (item_uses i env) (items_uses is (env_past i env))

schema_uses : (s : RawSchema) → Same (uses_in_schema s) (occurrences_in_schema (schema_of s))
schema_uses s = same_both (flat_map uses_in_item s.items) (uses_in s.concl) (flat_map occurrences_in_item (items_of s.items [])) (occurrences_in (pattern_of s.concl (env_behind s.items []))) (items_uses s.items []) (same_uses s.concl (env_behind s.items []))

schemata_uses : (ss : List RawSchema) → Same (flat_map uses_in_schema ss) (flat_map occurrences_in_schema (map schema_of ss))
schemata_uses [] = refl
schemata_uses (s ∷ ss) = same_both (uses_in_schema s) (flat_map uses_in_schema ss) (occurrences_in_schema (schema_of s)) (flat_map occurrences_in_schema (map schema_of ss)) (schema_uses s) (schemata_uses ss)

rule_uses : (r : RawRule) → Same (uses_in_rule r) (occurrences_of_rule (map schema_of r.premises) (schema_of r.concl))
rule_uses r = same_both (flat_map uses_in_schema r.premises) (uses_in_schema r.concl) (flat_map occurrences_in_schema (map schema_of r.premises)) (occurrences_in_schema (schema_of r.concl)) (schemata_uses r.premises) (schema_uses r.concl)

-- ## Alike

pub tells_rule_uses : (r : RawRule) → Tells (uses_faults (uses_in_rule r)) (is_consistent (occurrences_of_rule (map schema_of r.premises) (schema_of r.concl)) ≡ true)
tells_rule_uses r = tells_uses (uses_in_rule r) (occurrences_of_rule (map schema_of r.premises) (schema_of r.concl)) (rule_uses r)
