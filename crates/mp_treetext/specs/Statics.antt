-- The static rules of tree files as they are written, in a theory.
use Rattle.std.specs.Prelude.{ℕ, ◌+◌, ◌++◌, ℤ, pos, negsuc, nat_eq, nat_lt, nat_le, not, ◌&&◌, ◌||◌, Bool, false, List, [], ◌∷◌, length, drop, map, Option, None, Some, is_none}
use Rattle.std.specs.List.{flat_map}
use Rattle.mp_logic.specs.declared.sym.Sym.{Sym}
use Rattle.mp_names.specs.Sets.{is_among}
use Rattle.mp_strategy.specs.declared.limits.TheConstants.{MOST_NODES}
use Rattle.mp_theory.specs.Tables.{Laws}
use Rattle.mp_words.specs.declared.fail.TextErr.{TextErr}
use Rattle.mp_words.specs.declared.fail.TextWhy.TheVariants as why
use Rattle.mp_words.specs.declared.raw.RawName.{RawName}
use Rattle.mp_words.specs.Faults.{fault, fault_if}
use Rattle.mp_words.specs.Ranges.{number_faults}
use Rattle.mp_termtext.specs.declared.raw.RawBound.{RawBound}
use Rattle.mp_termtext.specs.Statics.{sequent_faults}
use Rattle.mp_steptext.specs.declared.raw.RawStep.{RawStep}
use Rattle.mp_steptext.specs.Terms.{term_step_faults}
use Rattle.mp_treetext.specs.declared.limits.TheConstants.{MOST_LINE_DEPTH}
use Rattle.mp_treetext.specs.declared.raw.RawBlock.{RawBlock}
use Rattle.mp_treetext.specs.declared.raw.RawGoalLine.{RawGoalLine}
use Rattle.mp_treetext.specs.declared.raw.RawFailure.{RawFailure}
use Rattle.mp_treetext.specs.declared.raw.RawState.{RawState}
use Rattle.mp_treetext.specs.declared.raw.RawState.TheVariants as state
use Rattle.mp_treetext.specs.declared.raw.RawTreeLine.{RawTreeLine}
use Rattle.mp_treetext.specs.declared.statics.Stand.{Stand}
use Rattle.mp_treetext.specs.Places.{depth_at, is_odd_at, line_end, line_start}

-- ## Tree lines

-- how a tree line stands in this text: its depth, and whether it is an open one
abbrev pub stand_of : List ℕ → RawTreeLine → Stand
stand_of source l = record { depth = depth_at source l.at; is_open = is_none l.step }

-- a line of this depth may follow the one before it: the first line has depth 0; a later one is deeper than 0, deeper than the one before by at
-- most one, and not deeper than an open one
abbrev pub may_follow : Option Stand → ℕ → Bool
may_follow None d = nat_eq d 0
may_follow (Some before) d = nat_lt 0 d && nat_le d (before.depth + 1) && not (before.is_open && nat_lt before.depth d)

-- the faults of how a line stands after the one before it: it is at most 400 deep, its spaces are even in number, and it may follow
abbrev pub stand_faults : List ℕ → Option Stand → RawTreeLine → List TextErr
stand_faults source before l =
    fault_if (nat_lt MOST_LINE_DEPTH (depth_at source l.at)) (line_start source l.at) why.TooDeep
    ++ fault_if (is_odd_at source l.at || not (may_follow before (depth_at source l.at))) (line_start source l.at) why.BadIndent

-- the faults of a step, if the line is one
abbrev pub written_faults : Laws → Option (RawStep RawBound) → List TextErr
written_faults t None = []
written_faults t (Some s) = term_step_faults t s

-- the faults of what a line says, of its step and of its goal
abbrev pub content_faults : Laws → RawTreeLine → List TextErr
content_faults t l = written_faults t l.step ++ sequent_faults l.goal

-- the faults of a tree line after the one before it
abbrev pub tree_line_faults : Laws → List ℕ → Option Stand → RawTreeLine → List TextErr
tree_line_faults t source before l = stand_faults source before l ++ content_faults t l

-- the faults of tree lines, each after the one before it
abbrev pub tree_lines_faults : Laws → List ℕ → Option Stand → List RawTreeLine → List TextErr
tree_lines_faults t source before [] = []
tree_lines_faults t source before (l ∷ ls) = tree_line_faults t source before l ++ tree_lines_faults t source (Some (stand_of source l)) ls

-- ## Goal lines

-- 1 for an open line, and 0 for a step
abbrev pub open_count : Option (RawStep RawBound) → ℕ
open_count None = 1
open_count (Some s) = 0

-- the number of open lines
abbrev pub open_lines : List RawTreeLine → ℕ
open_lines [] = 0
open_lines (l ∷ ls) = open_count l.step + open_lines ls

-- a number that is written is this count, which isn't 0
abbrev pub is_count : ℤ → ℕ → Bool
is_count (pos v) n = nat_lt 0 n && nat_eq v n
is_count (negsuc v) n = false

-- the fault of a tree that is missing, at the end of the line of this place
abbrev pub missing_tree_faults : List ℕ → ℕ → List RawTreeLine → List TextErr
missing_tree_faults source at [] = fault (line_end source at) why.BadIndent
missing_tree_faults source at (l ∷ ls) = []

-- a failure is at a strategy of a number from 1 to 4,096, and its goal has no fault
abbrev pub failure_faults : RawFailure → List TextErr
failure_faults f = number_faults 1 MOST_NODES f.tac ++ sequent_faults f.goal

-- a closed tree has no open line, and another one has as many as is written; neither tree is missing
abbrev pub state_faults : List ℕ → RawGoalLine → RawState → List RawTreeLine → List TextErr
state_faults source g state.Closed ls = fault_if (nat_lt 0 (open_lines ls)) g.at why.CountDiffers ++ missing_tree_faults source g.name.at ls
state_faults source g (state.Open n) ls = fault_if (not (is_count n.value (open_lines ls))) g.at why.CountDiffers ++ missing_tree_faults source g.name.at ls
state_faults source g (state.Failed f) ls = failure_faults f

-- the faults of a block but those of its name
abbrev pub block_faults : Laws → List ℕ → RawBlock → List TextErr
block_faults t source b = state_faults source b.goal b.goal.state b.lines ++ tree_lines_faults t source None b.lines

-- ## Names

-- the fault of a name that is no goal's
abbrev pub unknown_goal_faults : List Sym → RawName → List TextErr
unknown_goal_faults goals n = fault_if (not (is_among goals n.name)) n.at why.UnknownName

-- the name is that of the first of the goals that are due
abbrev pub is_due : List Sym → RawName → Bool
is_due [] n = false
is_due (g ∷ gs) n = nat_eq g.0 n.name.0

-- the fault of goals that are left at the end
abbrev pub left_faults : ℕ → List Sym → List TextErr
left_faults end [] = []
left_faults end (g ∷ gs) = fault end why.WrongGoal

-- the faults of blocks that aren't those of the goals in their order: a name that isn't that of the goal at its place, also where there is no
-- goal left, and goals that are left at the end
abbrev pub order_faults : ℕ → List Sym → List RawName → List TextErr
order_faults end due [] = left_faults end due
order_faults end due (n ∷ ns) = fault_if (not (is_due due n)) n.at why.WrongGoal ++ order_faults end (drop 1 due) ns

-- the names of blocks
abbrev pub block_names : List RawBlock → List RawName
block_names = map (λ b. b.goal.name)

-- ## Files

-- the static faults of a tree file for these goals: those of its names, and those of each block
abbrev pub file_faults : Laws → List Sym → List ℕ → List RawBlock → List TextErr
file_faults t goals source bs =
    flat_map (unknown_goal_faults goals) (block_names bs) ++ order_faults (length source) goals (block_names bs) ++ flat_map (block_faults t source) bs
