-- Where second-order variables, contexts and holes stand in schemata and rules as they are written.
use Rattle.std.specs.Prelude.{◌++◌, List, ◌∷◌, length, true}
use Rattle.std.specs.List.{flat_map}
use Rattle.mp_words.specs.declared.raw.RawName.{RawName}
use Rattle.mp_schematext.specs.declared.raw.RawItem.{RawItem}
use Rattle.mp_schematext.specs.declared.raw.RawSchema.{RawSchema}
use Rattle.mp_schematext.specs.declared.raw.RawRule.{RawRule}
use Rattle.mp_patterntext.specs.Scopes.{syms_of}
use Rattle.mp_patterntext.specs.Uses.{Use, uses_in, raw_holes}
use Rattle.mp_schematext.specs.declared.raw.RawItem.TheVariants as item

-- ## Uses

-- the uses in an item, after the context if it is one
abbrev pub uses_in_item : RawItem → List Use
uses_in_item (item.Ctx name ctxs args at) =
    record { is_context = true; name = name.name; at = name.at; ctxs = syms_of ctxs; arity = length args } ∷ flat_map uses_in args
uses_in_item (item.Hyp name pattern at) = uses_in pattern

-- the uses in a schema
abbrev pub uses_in_schema : RawSchema → List Use
uses_in_schema s = flat_map uses_in_item s.items ++ uses_in s.concl

-- the uses in a rule, in the order of the text
abbrev pub uses_in_rule : RawRule → List Use
uses_in_rule r = flat_map uses_in_schema r.premises ++ uses_in_schema r.concl

-- ## Holes

-- the holes of an item
abbrev pub raw_item_holes : RawItem → List RawName
raw_item_holes (item.Ctx name ctxs args at) = flat_map raw_holes args
raw_item_holes (item.Hyp name pattern at) = raw_holes pattern

-- the holes of a schema, in the order of the text
abbrev pub raw_schema_holes : RawSchema → List RawName
raw_schema_holes s = flat_map raw_item_holes s.items ++ raw_holes s.concl
