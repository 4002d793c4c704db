-- What has a value.
use Rattle.std.specs.Prelude.{List, Bool, true, false, ◌&&◌, Option, Some, None}
use Rattle.std.specs.List.{list_all}
use Rattle.mp_logic.specs.declared.sym.Sym.{Sym}
use Rattle.mp_schema.specs.declared.instance.Inst.{Inst}
use Rattle.mp_schema.specs.declared.pattern.Pattern.{Pattern}
use Rattle.mp_schema.specs.declared.schema.Schema.{Schema}
use Rattle.mp_schema.specs.Occurrences.{Occurrence, occurrences_in, occurrences_in_schema, holes_in, holes_in_schema}
use Rattle.mp_schema.specs.Values.{find_meta, find_param, find_ctx}

-- there is a value
abbrev pub is_there : {X : Type 0} → Option X → Bool
is_there None = false
is_there (Some x) = true

-- the name has a value, as a context if it is one, and else as a second-order variable
abbrev pub has_value : Inst → Bool → Sym → Bool
has_value i true name = is_there (find_ctx i.ctxs name)
has_value i false name = is_there (find_meta i.metas name)

-- each of these occurrences has a value, and so has each of these holes
abbrev pub all_covered : Inst → List Occurrence → List Sym → Bool
all_covered i os holes = list_all (λ (o : Occurrence). has_value i o.is_context o.name) os && list_all (λ name. is_there (find_param i.params name)) holes

-- each second-order variable and each hole of the pattern has a value
abbrev pub is_covered : Inst → Pattern → Bool
is_covered i p = all_covered i (occurrences_in p) (holes_in p)

-- each context, second-order variable and hole of the schema has a value
abbrev pub schema_covered : Inst → Schema → Bool
schema_covered i s = all_covered i (occurrences_in_schema s) (holes_in_schema s)
