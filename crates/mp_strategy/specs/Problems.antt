-- What holds of every problem.
use Rattle.std.specs.Prelude.{IsTrue, length}
use Rattle.std.specs.List.{list_all}
use Rattle.mp_logic.specs.Meaning.{Meaning}
use Rattle.mp_strategy.specs.declared.problem.ProblemState.{ProblemState}
use Rattle.mp_strategy.specs.Fits.{fits_of}

-- the invariant of a problem: its table of strategies fits its justifications, and the logic allows each of them
pub record IsProblem {L G J : Type 0} (meaning : L → Meaning G J) (p : ProblemState L J) : Type 0 where
  pub fits : IsTrue (fits_of (length p.justs) p.tacs)
  pub allowed : IsTrue (list_all (meaning p.logic).allowed p.justs)
