-- What tree files stand for that are written, in a theory, if no static rule is broken.
use Rattle.std.specs.Prelude.{ℕ, ◌+◌, ◌-◌, nat_abs, nat_lt, List, [], ◌∷◌, map, Option, None, Some, if◌then◌else◌}
use Rattle.std.specs.List.{flat_map}
use Rattle.mp_logic.specs.declared.tree.JustId.{JustId}
use Rattle.mp_logic.specs.declared.tree.Tree.{Tree, Leaf, Step}
use Rattle.mp_strategy.specs.declared.tactic.TacId.{TacId}
use Rattle.mp_term.specs.declared.sequent.Sequent.{Sequent}
use Rattle.mp_term.specs.declared.term.Term.{Var}
use Rattle.mp_theory.specs.declared.just.Just.{Just}
use Rattle.mp_theory.specs.Tables.{Laws}
use Rattle.mp_words.specs.declared.raw.RawNumber.{RawNumber}
use Rattle.mp_termtext.specs.declared.raw.RawBound.{RawBound}
use Rattle.mp_termtext.specs.Values.{sequent_value}
use Rattle.mp_steptext.specs.declared.raw.RawStep.{RawStep}
use Rattle.mp_steptext.specs.Terms.{just_of}
use Rattle.mp_treetext.specs.declared.roots.Line.{Line}
use Rattle.mp_treetext.specs.declared.roots.Root.{Root}
use Rattle.mp_treetext.specs.declared.printed.Printed.{Printed}
use Rattle.mp_treetext.specs.declared.printed.Printed.TheVariants as printed
use Rattle.mp_treetext.specs.declared.raw.RawBlock.{RawBlock}
use Rattle.mp_treetext.specs.declared.raw.RawFailure.{RawFailure}
use Rattle.mp_treetext.specs.declared.raw.RawState.{RawState}
use Rattle.mp_treetext.specs.declared.raw.RawState.TheVariants as state
use Rattle.mp_treetext.specs.declared.raw.RawTreeLine.{RawTreeLine}
use Rattle.mp_treetext.specs.Places.{depth_at}

-- ## From lines to trees

-- a tree whose first line has this depth
abbrev pub root : ℕ → Tree Sequent → Root
root d t = record { depth = d; tree = t }

-- the tree of a goal: a step with these kids, or an open leaf
abbrev pub tree_with : Sequent → Option JustId → List (Tree Sequent) → Tree Sequent
tree_with goal None kids = Leaf goal
tree_with goal (Some just) kids = Step goal just kids

-- the trees in front that are deeper
abbrev pub kids_of : ℕ → List Root → List (Tree Sequent)
kids_of d [] = []
kids_of d (r ∷ rs) = if nat_lt d r.depth then r.tree ∷ kids_of d rs else []

-- the trees from the first one on that isn't deeper
abbrev pub others_of : ℕ → List Root → List Root
others_of d [] = []
others_of d (r ∷ rs) = if nat_lt d r.depth then others_of d rs else r ∷ rs

-- the trees once a line stands before them: it takes the deeper ones in front as its kids
abbrev pub put_line : Line → List Root → List Root
put_line l rs = root l.depth (tree_with l.goal l.just (kids_of l.depth rs)) ∷ others_of l.depth rs

-- the trees that lines make
abbrev pub roots_of : List Line → List Root
roots_of [] = []
roots_of (l ∷ ls) = put_line l (roots_of ls)

-- the first of the trees, which is the only one if each line stands where it may
abbrev pub first_tree : List Root → Tree Sequent
first_tree [] = Leaf (record { hyps = []; concl = Var 0 })
first_tree (r ∷ rs) = r.tree

-- ## Lines that are written

-- the number of a step's justification
abbrev pub just_number : ℕ → Option (RawStep RawBound) → Option JustId
just_number n None = None
just_number n (Some s) = Some (record { 0 = n })

-- the number of the next step's justification
abbrev pub next_number : ℕ → Option (RawStep RawBound) → ℕ
next_number n None = n
next_number n (Some s) = n + 1

-- a line that is written, whose step has this number if it is one
abbrev pub line_of : List ℕ → ℕ → RawTreeLine → Line
line_of source n l = record { depth = depth_at source l.at; goal = sequent_value l.goal; just = just_number n l.step }

-- lines that are written: their steps have numbers in their order, from this one on
abbrev pub lines_of : List ℕ → ℕ → List RawTreeLine → List Line
lines_of source n [] = []
lines_of source n (l ∷ ls) = line_of source n l ∷ lines_of source (next_number n l.step) ls

-- the justification of a step, if there is one
abbrev pub step_justs : Laws → Option (RawStep RawBound) → List Just
step_justs t None = []
step_justs t (Some s) = just_of t s ∷ []

-- the justifications of the steps, one for each, in their order
abbrev pub justs_of : Laws → List RawTreeLine → List Just
justs_of t = flat_map (λ l. step_justs t l.step)

-- ## Files

-- the tree that lines stand for that are written
abbrev pub tree_of : List ℕ → List RawTreeLine → Tree Sequent
tree_of source ls = first_tree (roots_of (lines_of source 0 ls))

-- a number that counts from 1, as the number of a strategy
abbrev pub tac_of : RawNumber → TacId
tac_of n = record { 0 = nat_abs n.value - 1 }

-- the proof that tree lines stand for
abbrev pub proof_of : Laws → List ℕ → List RawTreeLine → Printed
proof_of t source ls = printed.Proof (tree_of source ls) (justs_of t ls)

-- the failure that is written
abbrev pub failure_of : RawFailure → Printed
failure_of f = printed.Failed f.kind (tac_of f.tac) (sequent_value f.goal)

-- what tree lines stand for after a goal line in this state
abbrev pub printed_of : Laws → List ℕ → RawState → List RawTreeLine → Printed
printed_of t source state.Closed ls = proof_of t source ls
printed_of t source (state.Open n) ls = proof_of t source ls
printed_of t source (state.Failed f) ls = failure_of f

-- what a block stands for
abbrev pub block_value : Laws → List ℕ → RawBlock → Printed
block_value t source b = printed_of t source b.goal.state b.lines

-- what the blocks of a file stand for, whose depths are those of their lines in this text
abbrev pub file_value : Laws → List ℕ → List RawBlock → List Printed
file_value t source = map (block_value t source)
