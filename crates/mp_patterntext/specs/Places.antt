-- The uses that places in what is written are, and the first ones that are held of each name.
use Rattle.std.specs.Prelude.{◌≡◌, List, length, nat_eq, Option}
use Rattle.std.specs.HashMap.{get}
use Rattle.std.specs.Option.{option_map, option_or}
use Rattle.mp_logic.specs.declared.sym.Sym.{Sym}
use Rattle.mp_patterntext.specs.declared.uses.FirstUses.{FirstUses}
use Rattle.mp_patterntext.specs.declared.uses.Place.{Place}
use Rattle.mp_patterntext.specs.Scopes.{syms_of}
use Rattle.mp_patterntext.specs.Uses.{Use, first_use}

-- the use that a place in what is written is
abbrev pub use_at : Place → Use
use_at p = record { is_context = p.is_context; name = p.name; at = p.at; ctxs = syms_of p.ctxs.now; arity = length p.args.now }

-- the use that is held of this name
abbrev pub first_held : FirstUses → Sym → Option Use
first_held firsts name = option_map use_at (get nat_eq firsts.places name.0)

-- of each name the new table has the use that the old one holds, or else the first one among these
abbrev pub Enters : FirstUses → List Use → FirstUses → Type 0
Enters old us new = (name : Sym) → first_held new name ≡ option_or (first_held old name) (first_use us name)
