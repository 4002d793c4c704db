-- A table of names, as the list of its names in the order of their first entry.
use Rattle.std.specs.Prelude.{◌≡◌, ◌+◌, ℕ, List, [], ◌∷◌, ◌++◌, slice_get, Option, Some, None, Bool, if◌then◌else◌, nat_eq}
use Rattle.std.specs.List.{list_any}
use Rattle.std.specs.Cmp.Lexicographic.{pointwise}

-- a name has this number: it stands at this place of the table, counted from 0
abbrev pub HasNumber : List (List ℕ) → ℕ → List ℕ → Type 0
HasNumber names at name = slice_get names at ≡ Some name

-- whether two names are the same bytes
abbrev pub is_same : List ℕ → List ℕ → Bool
is_same = pointwise nat_eq

-- whether a name is in the table
abbrev pub is_held : List (List ℕ) → List ℕ → Bool
is_held names name = list_any (is_same name) names

-- the table once a name is entered: a name that is held stays where it is, and a new one goes last
abbrev pub entered : List (List ℕ) → List ℕ → List (List ℕ)
entered names name = if is_held names name then names else names ++ name ∷ []

-- the number of a name once it is entered: its place, which for a new name is the table's length
abbrev pub number_of : List (List ℕ) → List ℕ → ℕ
number_of [] name = 0
number_of (held ∷ names) name = if is_same name held then 0 else 1 + number_of names name

-- a name, or the empty text if there is none
abbrev pub or_empty : Option (List ℕ) → List ℕ
or_empty None = []
or_empty (Some name) = name

-- the name that has this number, or the empty text if none has it
abbrev pub text_of : List (List ℕ) → ℕ → List ℕ
text_of names at = or_empty (slice_get names at)

-- no name of a table has two numbers
abbrev pub AreDistinct : List (List ℕ) → Type 0
AreDistinct names = (i j : ℕ) (name : List ℕ) → HasNumber names i name → HasNumber names j name → i ≡ j

-- a new table is the old one with further names after it, so that each name keeps its number
abbrev pub Extends : List (List ℕ) → List (List ℕ) → Type 0
Extends old new = (more : List (List ℕ)) × (new ≡ old ++ more)
