-- What the tables in memory hold of a text.
use Rattle.std.specs.Prelude.{◌≡◌, ℕ, List, map, nat_eq, ◌||◌, Option}
use Rattle.std.specs.HashMap.{get}
use Rattle.std.specs.Option.{option_map, option_or}
use Rattle.mp_logic.specs.declared.sym.Sym.{Sym}
use Rattle.mp_names.specs.Sets.{is_met}
use Rattle.mp_schema.specs.declared.first_uses.FirstUses.{FirstUses}
use Rattle.mp_schema.specs.Conditions.{has}
use Rattle.mp_schema.specs.Occurrences.{Occurrence, first_named}
use Rattle.mp_schema.specs.Places.{occurrence_at}

-- ## First uses

-- the use that is held of this name
abbrev pub use_of : FirstUses → Sym → Option Occurrence
use_of uses name = option_map occurrence_at (get nat_eq uses.places name.0)

-- of each name the new table has the use that the old one holds, or else the first one among these
abbrev pub Enters : FirstUses → List Occurrence → FirstUses → Type 0
Enters old os new = (name : Sym) → use_of new name ≡ option_or (use_of old name) (first_named os name)

-- ## Holes

-- the names with these numbers
abbrev pub names_met : List ℕ → List Sym
names_met met = map (λ n. record { 0 = n }) met

-- the new set has the names of the old one and these
abbrev pub Meets : List ℕ → List Sym → List ℕ → Type 0
Meets old names new = (name : Sym) → is_met new name.0 ≡ (is_met old name.0 || has names name)
