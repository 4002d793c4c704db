-- The one text of a step and of a proof tree.
use Rattle.std.specs.Prelude.{ℕ, ◌++◌, List, [], ◌∷◌, Some, None, codes, slice_get}
use Rattle.std.specs.declared.option.Option.{Option}
use Rattle.mp_logic.specs.declared.tree.Tree.{Tree, Tree-F}
use Rattle.mp_logic.specs.declared.tree.Tree.TheOpen as layer
use Rattle.mp_logic.specs.declared.tree.Tree.TheFolds.{fold-Tree}
use Rattle.mp_term.specs.declared.sequent.Sequent.{Sequent}
use Rattle.mp_steptext.specs.Printing.{just_text}
use Rattle.mp_termtext.specs.Printing.{sequent_text}
use Rattle.mp_theory.specs.declared.just.Just.{Just}
use Rattle.mp_theory.specs.Tables.{Laws}

-- a step by a justification; nothing if there is none
abbrev pub step_text : List (List ℕ) → Laws → Option Just → List ℕ
step_text names theory (Some just) = just_text names theory just
step_text names theory None = []

-- a bar, the sequent and the line's end
abbrev pub goal_text : List (List ℕ) → Sequent → List ℕ
goal_text names goal = codes " | " ++ sequent_text names goal ++ codes "\n"

-- what is printed after an indentation
abbrev pub Indented : Type 0
Indented = List ℕ → List ℕ

-- the texts one after the other, each after the same indentation
abbrev pub all_indented : List ℕ → List Indented → List ℕ
all_indented indent [] = []
all_indented indent (t ∷ ts) = t indent ++ all_indented indent ts

module _ (names : List (List ℕ)) (theory : Laws) (justs : List Just) where
  -- the line of a node, and those of its kids after it
  abbrev pub tree_step : Tree-F Sequent Indented → Indented
  tree_step (layer.Leaf goal) indent = indent ++ codes "open" ++ goal_text names goal
  tree_step (layer.Step goal just kids) indent =
      indent ++ step_text names theory (slice_get justs just.0) ++ goal_text names goal ++ all_indented (indent ++ codes "  ") kids

  -- a line for each node in preorder, with its justification or `open`; a kid's line is indented by two spaces more than its parent's
  abbrev pub tree_text : Tree Sequent → Indented
  tree_text = fold-Tree Sequent Indented tree_step
