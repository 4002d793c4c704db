-- What scripts stand for that are written, in a theory, if no static rule is broken.
use Rattle.std.specs.Prelude.{ℕ, nat_abs, List, map, Option, None, Some}
use Rattle.mp_theory.specs.Tables.{Laws}
use Rattle.mp_words.specs.declared.raw.RawNumber.{RawNumber}
use Rattle.mp_termtext.specs.Values.{sequent_value}
use Rattle.mp_scripttext.specs.declared.raw.RawEntry.{RawEntry}
use Rattle.mp_scripttext.specs.declared.script.Entry.{Entry}
use Rattle.mp_scripttext.specs.declared.script.Script.{Script}
use Rattle.mp_steptext.specs.Terms.{just_of}
use Rattle.mp_scripttext.specs.Strategies.{strategy_of}

-- the fuel that is written, or 200
abbrev pub fuel_of : Option RawNumber → ℕ
fuel_of None = 200
fuel_of (Some n) = nat_abs n.value

-- the goal that is written: each step has a justification of its own, and its strategies are numbered in preorder from 0
abbrev pub entry_of : Laws → RawEntry → Entry
entry_of t e = record {
  name = e.name.name;
  goal = sequent_value e.goal;
  fuel = fuel_of e.fuel;
  justs = map (just_of t) (strategy_of e.strategy).steps;
  tacs = (strategy_of e.strategy).rows 0 0;
}

-- the script that is written
abbrev pub script_of : Laws → List RawEntry → Script
script_of t es = record { entries = map (entry_of t) es }
