-- What stands before a part of a schema as it is written: the names that are bound, and the contexts.
use Rattle.std.specs.Prelude.{◌++◌, List, [], ◌∷◌}
use Rattle.std.specs.List.{flat_map}
use Rattle.mp_logic.specs.declared.sym.Sym.{Sym}
use Rattle.mp_words.specs.declared.raw.RawName.{RawName}
use Rattle.mp_schematext.specs.declared.raw.RawItem.{RawItem}
use Rattle.mp_schematext.specs.declared.raw.RawSchema.{RawSchema}
use Rattle.mp_patterntext.specs.Scopes.{syms_of}
use Rattle.mp_schematext.specs.declared.raw.RawItem.TheVariants as item

-- the bound names after an item
abbrev pub env_past : RawItem → List Sym → List Sym
env_past (item.Ctx name ctxs args at) env = env
env_past (item.Hyp name pattern at) env = env ++ name ∷ []

-- the bound names after all items
abbrev pub env_behind : List RawItem → List Sym → List Sym
env_behind [] env = env
env_behind (i ∷ is) env = env_behind is (env_past i env)

-- the context that an item is, if it is one
abbrev pub context_in : RawItem → List RawName
context_in (item.Ctx name ctxs args at) = name ∷ []
context_in (item.Hyp name pattern at) = []

-- the contexts among the items of a schema
abbrev pub contexts_of : RawSchema → List RawName
contexts_of s = flat_map context_in s.items

-- the contexts after an item
abbrev pub contexts_past : RawItem → List Sym → List Sym
contexts_past i known = known ++ syms_of (context_in i)
