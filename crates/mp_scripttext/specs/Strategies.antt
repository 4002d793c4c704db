-- What a strategy that is written stands for: rows of a table, numbered in preorder.
use Rattle.std.specs.Prelude.{ℕ, ◌+◌, ◌++◌, nat_abs, sum_by, List, [], ◌∷◌, length, map}
use Rattle.std.specs.List.{flat_map}
use Rattle.mp_logic.specs.Lists.{greatest}
use Rattle.mp_strategy.specs.declared.limits.TheConstants.{MOST_BRANCHES, MOST_REPEATS}
use Rattle.mp_strategy.specs.declared.tactic.Tac.{Tac}
use Rattle.mp_strategy.specs.declared.tactic.Tac.TheVariants as tac
use Rattle.mp_strategy.specs.declared.tactic.TacId.{TacId}
use Rattle.mp_theory.specs.Tables.{Laws}
use Rattle.mp_words.specs.declared.fail.TextErr.{TextErr}
use Rattle.mp_words.specs.Faults.{too_many}
use Rattle.mp_words.specs.Ranges.{number_faults}
use Rattle.mp_termtext.specs.declared.raw.RawBound.{RawBound}
use Rattle.mp_steptext.specs.declared.raw.RawStep.{RawStep}
use Rattle.mp_steptext.specs.Terms.{term_step_faults}
use Rattle.mp_scripttext.specs.declared.raw.RawPrefix.{RawPrefix}
use Rattle.mp_scripttext.specs.declared.raw.RawPrefix.TheVariants as before
use Rattle.mp_scripttext.specs.declared.raw.RawStrategy.{RawStrategy, RawStrategy-F, fold-RawStrategy}
use Rattle.mp_scripttext.specs.declared.raw.RawLink.{RawLink, RawLink-F, fold-RawLink}
use Rattle.mp_scripttext.specs.declared.raw.RawAtom.{RawAtom, RawAtom-F, fold-RawAtom}
use Rattle.mp_scripttext.specs.declared.raw.RawAtom.TheOpen as layer

-- ## Strategies

-- a strategy: its steps from left to right, its nodes, its depth, its rows where its first node and its first step have these
-- numbers, and its static faults in a theory
pub record Strategy : Type 0 where
  pub steps : List (RawStep RawBound)
  pub nodes : ℕ
  pub depth : ℕ
  pub rows : (node step : ℕ) → List Tac
  pub faults : Laws → List TextErr

-- the number of a strategy in the table
abbrev pub number : ℕ → TacId
number n = record { 0 = n }

-- the numbers of strategies that stand one after the other, the first one at this number
abbrev pub numbers : List Strategy → ℕ → List TacId
numbers [] node = []
numbers (s ∷ ss) node = number node ∷ numbers ss (node + s.nodes)

-- the rows of strategies one after the other
abbrev pub rows_of : List Strategy → (node step : ℕ) → List Tac
rows_of [] node step = []
rows_of (s ∷ ss) node step = s.rows node step ++ rows_of ss (node + s.nodes) (step + length s.steps)

-- the steps of strategies one after the other
abbrev pub steps_of : List Strategy → List (RawStep RawBound)
steps_of ss = flat_map (λ s. s.steps) ss

-- the nodes of strategies together
abbrev pub nodes_of : List Strategy → ℕ
nodes_of ss = sum_by (λ s. s.nodes) ss

-- the depth of the deepest of strategies, and 0 if there are none
abbrev pub deepest : List Strategy → ℕ
deepest ss = greatest (map (λ s. s.depth) ss)

-- the static faults of strategies one after the other
abbrev pub faults_of_each : Laws → List Strategy → List TextErr
faults_of_each t ss = flat_map (λ s. s.faults t) ss

-- a node and, after it, its parts from left to right: its row by its own number, and its own faults
abbrev pub over : (ℕ → Tac) → List TextErr → List Strategy → Strategy
over row own parts = record {
  steps = steps_of parts;
  nodes = 1 + nodes_of parts;
  depth = 1 + deepest parts;
  rows = λ node step. row node ∷ rows_of parts (node + 1) step;
  faults = λ t. own ++ faults_of_each t parts;
}

-- `id`: a node without parts
abbrev pub id_alone : Strategy
id_alone = over (λ here. tac.Id) [] []

-- `fail`: a node without parts
abbrev pub fail_alone : Strategy
fail_alone = over (λ here. tac.Fail) [] []

-- one step: a node of its own
abbrev pub step_alone : RawStep RawBound → Strategy
step_alone s = record {
  steps = s ∷ [];
  nodes = 1;
  depth = 1;
  rows = λ node step. tac.Step (record { 0 = step }) ∷ [];
  faults = λ t. term_step_faults t s;
}

-- the row of a race; no race without branches is read, and it would fail
abbrev pub race_row : List TacId → Tac
race_row [] = tac.Fail
race_row (b ∷ bs) = tac.Race (b ∷ bs)

-- a race between strategies, with its own faults
abbrev pub race_strategy : List TextErr → List Strategy → Strategy
race_strategy own branches = over (λ here. race_row (numbers branches (here + 1))) own branches

-- ## What is made of a strategy

-- what a link or a prefix makes of a strategy: a node over it and over further parts, with a row that is told by the numbers of the
-- strategy and of the next part
pub record Link : Type 0 where
  pub parts : List Strategy
  pub row : (first next : ℕ) → Tac

-- the node, the strategy, and the further parts
abbrev pub linked : List TextErr → Strategy → Link → Strategy
linked own s l = over (λ here. l.row (here + 1) (here + 1 + s.nodes)) own (s ∷ l.parts)

-- a strategy and several links, grouped to the left
abbrev pub linked_all : Strategy → List Link → Strategy
linked_all s [] = s
linked_all s (l ∷ ls) = linked_all (linked [] s l) ls

-- `then`: the strategy, and this one on each leaf
abbrev pub then_link : Strategy → Link
then_link b = record { parts = b ∷ []; row = λ first next. tac.Then (number first) (number next) }

-- `thenl`: the strategy, and one of these on each leaf
abbrev pub then_list_link : List Strategy → Link
then_list_link bs = record { parts = bs; row = λ first next. tac.ThenL (number first) (numbers bs next) }

-- `orelse`: the strategy, and where it fails this one
abbrev pub else_link : Strategy → Link
else_link b = record { parts = b ∷ []; row = λ first next. tac.Else (number first) (number next) }

-- a node over the strategy alone
abbrev pub alone_link : (TacId → Tac) → Link
alone_link row = record { parts = []; row = λ first next. row (number first) }

-- what a prefix makes of its argument: `try` is the argument with `orelse id` after it
abbrev pub prefix_link : RawPrefix → Link
prefix_link before.Try = else_link id_alone
prefix_link (before.Repeat n) = alone_link (λ a. tac.Repeat (nat_abs n.value) a)
prefix_link before.Progress = alone_link (λ a. tac.Progress a)
prefix_link before.Complete = alone_link (λ a. tac.Complete a)

-- the static faults of a prefix: `repeat` has a number from 0 to 400
abbrev pub prefix_faults : RawPrefix → List TextErr
prefix_faults before.Try = []
prefix_faults (before.Repeat n) = number_faults 0 MOST_REPEATS n
prefix_faults before.Progress = []
prefix_faults before.Complete = []

-- ## What is written

-- a strategy, with the first byte of its text
pub record Placed : Type 0 where
  pub at : ℕ
  pub strategy : Strategy

-- strategies without their places
abbrev pub unplaced : List Placed → List Strategy
unplaced = map (λ p. p.strategy)

-- what a strategy stands for that is written, by its first atom and its links
abbrev pub strategy_step : RawStrategy-F Strategy Link Placed → Placed
strategy_step s = record { at = s.at; strategy = linked_all s.first s.links }

-- what a link stands for, by its parts
abbrev pub link_step : RawLink-F Strategy Link Placed → Link
link_step (layer.Then a) = then_link a
link_step (layer.ThenL ss) = then_list_link (unplaced ss)
link_step (layer.OrElse s) = else_link s.strategy

-- what an atom stands for, by its parts
abbrev pub atom_step : RawAtom-F Strategy Link Placed → Strategy
atom_step layer.Id = id_alone
atom_step layer.Fail = fail_alone
atom_step (layer.Step s) = step_alone s
atom_step (layer.Race ss) = race_strategy (too_many (λ p. p.at) MOST_BRANCHES ss) (unplaced ss)
atom_step (layer.Prefix p a) = linked (prefix_faults p) a (prefix_link p)
atom_step (layer.Group s) = s.strategy

-- the strategy that is written, with its place
abbrev pub placed_strategy : RawStrategy → Placed
placed_strategy = fold-RawStrategy Strategy Link Placed atom_step link_step strategy_step

-- the strategy that is written
abbrev pub strategy_of : RawStrategy → Strategy
strategy_of s = (placed_strategy s).strategy

-- what follows a strategy as it is written
abbrev pub link_of : RawLink → Link
link_of = fold-RawLink Strategy Link Placed atom_step link_step strategy_step

-- the atom that is written
abbrev pub atom_strategy : RawAtom → Strategy
atom_strategy = fold-RawAtom Strategy Link Placed atom_step link_step strategy_step
