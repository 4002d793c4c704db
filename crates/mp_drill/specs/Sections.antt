-- The events of a goal, among sections.
use Rattle.std.specs.Prelude.{◌≡◌, nat_eq, List, [], ◌∷◌, if◌then◌else◌}
use Rattle.mp_logic.specs.declared.sym.Sym.{Sym}
use Rattle.mp_drill.specs.declared.schedule.Event.{Event}
use Rattle.mp_drill.specs.declared.schedule.Section.{Section}

-- the events of the goal's section, which is the first one of its name; none if it has none
abbrev pub events_of : List Section → Sym → List Event
events_of [] name = []
events_of (s ∷ ss) name = if nat_eq s.goal.0 name.0 then s.events else events_of ss name

-- each goal has the same events among both
abbrev pub SameEvents : List Section → List Section → Type 0
SameEvents ss others = (name : Sym) → events_of ss name ≡ events_of others name
