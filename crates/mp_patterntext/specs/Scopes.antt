-- Names that are known where something is written: bound ones, and those of lists.
use Rattle.std.specs.Prelude.{ℕ, List, map, not, Option, None}
use Rattle.std.specs.List.{flat_map}
use Rattle.mp_logic.specs.declared.sym.Sym.{Sym}
use Rattle.mp_termtext.specs.Statics.{level_of}
use Rattle.mp_schema.specs.Conditions.{has}
use Rattle.mp_words.specs.declared.fail.TextErr.{TextErr}
use Rattle.mp_words.specs.declared.fail.TextWhy.{TextWhy}
use Rattle.mp_words.specs.declared.raw.RawName.{RawName}
use Rattle.mp_words.specs.Faults.{fault_if}

-- the level that a variable means where these names are bound: the place of the last one that is its name
abbrev pub level_in : List Sym → Sym → Option ℕ
level_in env name = level_of 0 env name None

-- the names without their places
abbrev pub syms_of : List RawName → List Sym
syms_of ns = map (λ n. n.name) ns

-- each of the names is one of the known ones
abbrev pub unknown_faults : TextWhy → List Sym → List RawName → List TextErr
unknown_faults w known ns = flat_map (λ n. fault_if (not (has known n.name)) n.at w) ns
