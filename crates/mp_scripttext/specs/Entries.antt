-- Goals that can be evaluated.
use Rattle.std.specs.Prelude.{◌≤◌, List, [], ◌∷◌, length, IsTrue, ⊤}
use Rattle.std.specs.List.{list_all}
use Rattle.mp_strategy.specs.declared.limits.TheConstants.{MOST_FUEL}
use Rattle.mp_strategy.specs.Fits.{fits_of}
use Rattle.mp_theory.specs.Tables.{Laws}
use Rattle.mp_theory.specs.Allowed.{is_allowed, is_good}
use Rattle.mp_scripttext.specs.declared.script.Entry.{Entry}

-- the goal can be evaluated in this theory: its table of strategies fits, each justification is allowed, the sequent is good, its
-- fuel is at most 400
pub record IsGoodEntry (t : Laws) (e : Entry) : Type 0 where
  pub fits : IsTrue (fits_of (length e.justs) e.tacs)
  pub allowed : IsTrue (list_all (is_allowed t) e.justs)
  pub good : IsTrue (is_good e.goal)
  pub fuel : e.fuel ≤ MOST_FUEL

-- each of the goals can be evaluated in this theory
abbrev pub EachGood : Laws → List Entry → Type 0
EachGood t [] = ⊤
EachGood t (e ∷ es) = IsGoodEntry t e × EachGood t es
