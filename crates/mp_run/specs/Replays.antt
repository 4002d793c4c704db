-- What is printed of the blocks of a tree file.
use Rattle.std.specs.Prelude.{◌≡◌, ◌↔◌, ◌⊎◌, List, [], ◌∷◌, Bool, true, false, IsTrue}
use Rattle.mp_logic.specs.declared.tree.Tree.{Tree}
use Rattle.mp_term.specs.declared.sequent.Sequent.{Sequent}
use Rattle.mp_theory.specs.Tables.{Laws}
use Rattle.mp_theory.specs.declared.just.Just.{Just}
use Rattle.mp_refiner.specs.Law.{IsStepFunction}
use Rattle.mp_scripttext.specs.declared.script.Entry.{Entry}
use Rattle.mp_treetext.specs.declared.printed.Printed.{Printed}
use Rattle.mp_treetext.specs.declared.printed.Printed.TheVariants as printed
use Rattle.mp_replay.specs.declared.verdict.BadCause.{BadCause}
use Rattle.mp_replay.specs.declared.verdict.BadCause.TheVariants as cause
use Rattle.mp_replay.specs.declared.verdict.Verdict.{Verdict as TreeVerdict}
use Rattle.mp_replay.specs.declared.verdict.Verdict.TheVariants as tree
use Rattle.mp_replay.specs.Verdicts.{IsVerdict}
use Rattle.mp_report.specs.declared.check.BadNode.{BadNode}
use Rattle.mp_report.specs.declared.check.BadNode.TheVariants as bad
use Rattle.mp_report.specs.declared.check.Checked.{Checked}
use Rattle.mp_report.specs.declared.check.Checked.TheVariants as checked
use Rattle.mp_report.specs.Checks.{checked_text}
use Rattle.mp_run.specs.declared.piece.Piece.{Piece}
use Rattle.mp_run.specs.declared.piece.Verdict.{Verdict}
use Rattle.mp_run.specs.declared.piece.Verdict.TheVariants.{Closed, Open, Ends}
use Rattle.mp_run.specs.declared.status.Status.TheVariants.{BadTree}
use Rattle.mp_run.specs.Goals.{Steps}
use Rattle.mp_run.specs.Parts.{Names}
use Rattle.mp_run.specs.Proofs.{Proves, IsDerivable}

-- what is said of a bad node, by its cause
abbrev pub bad_node_of : BadCause Sequent → BadNode
bad_node_of cause.Goal = bad.Goal
bad_node_of (cause.Refused why) = bad.Refused why
bad_node_of (cause.Kids found due) = bad.Kids

-- what is said of a tree, by the verdict on it
abbrev pub checked_of : TreeVerdict Sequent → Checked
checked_of tree.Closed = checked.Closed
checked_of (tree.OpenLeaves leaves) = checked.Open leaves
checked_of (tree.Bad node why) = checked.Bad node (bad_node_of why)

-- the verdict on what is said of a block: a bad tree ends the run
abbrev pub run_verdict : Checked → Verdict
run_verdict checked.Closed = Closed
run_verdict (checked.Open leaves) = Open
run_verdict checked.Unchecked = Open
run_verdict (checked.Bad node why) = Ends BadTree

-- whether the tree is called valid, by the verdict on it
abbrev pub is_valid : TreeVerdict Sequent → Bool
is_valid tree.Closed = true
is_valid (tree.OpenLeaves leaves) = true
is_valid (tree.Bad node why) = false

-- the piece is the line of the goal's block of which this is said
pub record IsLine (names : Names) (entry : Entry) (c : Checked) (p : Piece) : Type 0 where
  pub text : p.text ≡ checked_text names entry.name c
  pub verdict : p.verdict ≡ run_verdict c

-- the piece of a goal with a tree of this verdict. The tree is called valid exactly where it proves the goal by steps of the theory, and a
-- goal whose tree is called closed is derivable.
pub record IsVerdictLine (names : Names) (theory : Laws) (entry : Entry) (t : Tree Sequent) (justs : List Just) (v : TreeVerdict Sequent) (p : Piece) : Type 0 where
  pub valid : IsTrue (is_valid v) ↔ Proves theory justs t entry.goal
  pub derivable : v ≡ tree.Closed → IsDerivable theory entry.goal
  pub line : IsLine names entry (checked_of v) p

-- a goal's piece by its block in a tree file: the verdict on its tree is that of replay by the steps of the theory; a failure isn't checked
abbrev pub IsChecked : Names → Laws → Entry → Printed → Piece → Type 0
IsChecked names theory entry (printed.Proof t justs) p =
    (steps : Steps)
    × IsStepFunction theory steps
    × (v : TreeVerdict Sequent)
    × IsVerdict steps justs t entry.goal v
    × IsVerdictLine names theory entry t justs v p
IsChecked names theory entry (printed.Failed kind tac goal) p = IsLine names entry checked.Unchecked p

-- the piece of a goal beside its block in a tree file
abbrev pub IsReplayed : Names → Laws → Entry × Printed → Piece → Type 0
IsReplayed names theory x p = IsChecked names theory x.0 x.1 p

-- ## Bad trees

-- the block has a tree that doesn't prove the goal by steps of the theory
abbrev pub IsBadTree : Laws → Entry → Printed → Type 0
IsBadTree theory entry (printed.Proof t justs) = ¬ (Proves theory justs t entry.goal)
IsBadTree theory entry (printed.Failed kind tac goal) = ⊥

-- some goal has a block with a bad tree
abbrev pub SomeBadTree : Laws → List (Entry × Printed) → Type 0
SomeBadTree theory [] = ⊥
SomeBadTree theory (x ∷ xs) = IsBadTree theory x.0 x.1 ⊎ SomeBadTree theory xs
