-- A list of levels as it is kept: in runs of levels that follow each other.
use Rattle.std.specs.Prelude.{ℕ, List, [], ◌∷◌, ◌++◌}
use Rattle.mp_term.specs.Subst.{upto}
use Rattle.mp_subst.specs.declared.levels.Run.{Run}

-- the levels of the runs, one run after the other
abbrev pub levels_in : List Run → List ℕ
levels_in [] = []
levels_in (r ∷ rs) = upto r.first r.count ++ levels_in rs
