-- Rows of terms, and the weights of terms.
use Rattle.std.specs.Prelude.{◌≡◌, ℕ, List, [], ◌∷◌, ◌++◌, map, sum_by}
use Rattle.mp_logic.specs.Lists.{greatest}
use Rattle.mp_logic.specs.Trees.{counted}
use Rattle.mp_term.specs.declared.term.Term.{Term}
use Rattle.mp_term.specs.declared.measure.Weight.{Weight}
use Rattle.mp_term.specs.Terms.{size_of, depth_of}

-- the terms of several rows, one row after the other
abbrev pub all_of : List (List Term) → List Term
all_of [] = []
all_of (ts ∷ rows) = ts ++ all_of rows

-- the depth of the deepest of some terms, and 0 where there is none
abbrev pub deepest_of : List Term → ℕ
deepest_of ts = greatest (map depth_of ts)

-- it is the size and the depth of this term
pub record IsWeightOf (w : Weight) (t : Term) : Type 0 where
  pub size : w.size ≡ counted (size_of t)
  pub depth : w.depth ≡ counted (depth_of t)

-- it is the size of all these terms together, and the depth of the deepest
pub record IsWeightOfAll (w : Weight) (ts : List Term) : Type 0 where
  pub size : w.size ≡ counted (sum_by size_of ts)
  pub depth : w.depth ≡ counted (deepest_of ts)
