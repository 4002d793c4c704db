-- A second one of its name.
use Rattle.std.specs.Prelude.{◌++◌, List, [], ◌∷◌}
use Rattle.mp_logic.specs.declared.sym.Sym.{Sym}
use Rattle.mp_names.specs.Sets.{is_among}
use Rattle.mp_words.specs.declared.fail.TextErr.{TextErr}
use Rattle.mp_words.specs.declared.fail.TextWhy.{TextWhy}
use Rattle.mp_words.specs.declared.raw.RawName.{RawName}
use Rattle.mp_words.specs.Faults.{fault_if}

-- the faults of items, after some of these names: one for each item whose name is among them or is that of an item before, at its name
abbrev pub second_after : {X : Type 0} → (X → RawName) → TextWhy → List Sym → List X → List TextErr
second_after name why before [] = []
second_after name why before (x ∷ xs) = fault_if (is_among before (name x).name) (name x).at why ++ second_after name why (before ++ (name x).name ∷ []) xs

-- the faults of items of which two have the same name: one for each that isn't the first of its name, at its name
abbrev pub second_faults : {X : Type 0} → (X → RawName) → TextWhy → List X → List TextErr
second_faults name why xs = second_after name why [] xs
