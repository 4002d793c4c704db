-- The size and the depth of a term in which other terms stand for its first variables.
use Rattle.std.specs.Prelude.{ℕ, ◌+◌, sum, List}
use Rattle.std.specs.List.{slice_index_or}
use Rattle.mp_term.specs.declared.term.Term.{Term, Term-F}
use Rattle.mp_term.specs.declared.term.Bound.{Bound}
use Rattle.mp_term.specs.declared.term.Term.TheOpen as layer
use Rattle.mp_term.specs.declared.term.Term.TheFolds.{fold-Term, fold-Bound}
use Rattle.mp_term.specs.Terms.{body_step}
use Rattle.mp_logic.specs.Lists.{greatest}

module _ (sizes : List ℕ) where
  -- the size of one layer of a term under these sizes of its first variables
  abbrev pub sub_size_step : Term-F ℕ ℕ → ℕ
  sub_size_step (layer.Var level) = slice_index_or sizes level 1
  sub_size_step (layer.Op op params subs) = 1 + sum subs

  -- the size of a term in which each variable that has an item in the list counts as that item, and each other variable and operator as 1
  abbrev pub sub_size : Term → ℕ
  sub_size = fold-Term ℕ ℕ sub_size_step body_step

  -- the size of a bound subterm under these sizes of its first variables
  abbrev pub sub_size_bound : Bound → ℕ
  sub_size_bound = fold-Bound ℕ ℕ sub_size_step body_step

  -- the depth of one layer of a term under these depths of its first variables
  abbrev pub sub_depth_step : Term-F ℕ ℕ → ℕ
  sub_depth_step (layer.Var level) = slice_index_or sizes level 1
  sub_depth_step (layer.Op op params subs) = 1 + greatest subs

  -- the depth of a term in which each variable that has an item in the list is as deep as that item, and each other one 1 deep
  abbrev pub sub_depth : Term → ℕ
  sub_depth = fold-Term ℕ ℕ sub_depth_step body_step

  -- the depth of a bound subterm under these depths of its first variables
  abbrev pub sub_depth_bound : Bound → ℕ
  sub_depth_bound = fold-Bound ℕ ℕ sub_depth_step body_step
