-- What may be built of schemata that are written: no static rule is broken in them.
use Rattle.std.specs.Prelude.{◌≡◌, ◌+◌, ◌≤◌, List, [], length, Bool}
use Rattle.std.specs.List.{flat_map}
use Rattle.mp_logic.specs.declared.sym.Sym.{Sym}
use Rattle.mp_schematext.specs.declared.raw.RawItem.{RawItem}
use Rattle.mp_schematext.specs.declared.raw.RawSchema.{RawSchema}
use Rattle.mp_schematext.specs.Statics.{item_faults, items_faults, premise_faults, schema_faults}

-- no static rule is broken in the nodes of the item
abbrev pub IsFaultlessItem : RawItem → List Sym → Type 0
IsFaultlessItem i env = (known : List Sym) × (final : Bool) × (item_faults known final i env ≡ []) × (length env ≤ 200)

-- no static rule is broken in the nodes of the items, which are few with the names before them
abbrev pub AreFaultlessItems : List RawItem → List Sym → Type 0
AreFaultlessItems is env = (known : List Sym) × (final : Bool) × (items_faults known final is env ≡ []) × (length env + length is ≤ 200)

-- no static rule is broken in the schema
abbrev pub IsFaultlessSchema : RawSchema → Type 0
IsFaultlessSchema s = (final : Bool) × (schema_faults final s ≡ [])

-- no static rule is broken in the premises
abbrev pub AreFaultlessPremises : List RawSchema → Type 0
AreFaultlessPremises ss = (concl : List Sym) × (flat_map (premise_faults concl) ss ≡ [])
