-- The grammar of tree files, over words.
--   file = block*     block = goal_line tree_line*, without a tree line if it failed
--   goal_line = "goal" Small : state     state = "closed" | Num "open" | "failed" Cap "at" "strategy" Num BAR sequent
--   tree_line = node BAR sequent     node = "open" | step
-- Each goal line and each tree line stands on one line of its own. The Cap is the name of a kind of failure.
use Rattle.std.specs.Prelude.{ℕ, not, ◌&&◌, Bool, true, false, List, [], Option, None, Some}
use Rattle.mp_strategy.specs.declared.outcome.Kind.{Kind}
use Rattle.mp_words.specs.declared.word.Word.{Word}
use Rattle.mp_words.specs.declared.word.Mark.TheVariants as mark
use Rattle.mp_words.specs.declared.word.Keyword.TheVariants as keyword
use Rattle.mp_words.specs.declared.raw.RawName.{RawName}
use Rattle.mp_words.specs.declared.raw.RawNumber.{RawNumber}
use Rattle.mp_words.specs.Grammars.{Grammar, after, both, choose, ended, form, fronted, made, many, nothing, repeated, some_words, token}
use Rattle.mp_words.specs.Fronts.{a_number, is_mark, is_word, name_behind, with_place}
use Rattle.mp_termtext.specs.declared.raw.RawBound.{RawBound}
use Rattle.mp_termtext.specs.declared.raw.RawSequent.{RawSequent}
use Rattle.mp_termtext.specs.Grammar.{sequent}
use Rattle.mp_steptext.specs.declared.raw.RawStep.{RawStep}
use Rattle.mp_steptext.specs.Terms.{step_with_terms}
use Rattle.mp_treetext.specs.declared.raw.RawBlock.{RawBlock}
use Rattle.mp_treetext.specs.declared.raw.RawFailure.{RawFailure}
use Rattle.mp_treetext.specs.declared.raw.RawGoalLine.{RawGoalLine}
use Rattle.mp_treetext.specs.declared.raw.RawState.{RawState}
use Rattle.mp_treetext.specs.declared.raw.RawState.TheVariants as state
use Rattle.mp_treetext.specs.declared.raw.RawTreeLine.{RawTreeLine}
use Rattle.mp_treetext.specs.Kinds.{failure_kind_at}
use Rattle.mp_treetext.specs.OneLine.{on_one_line, then_by}

-- BAR sequent
abbrev pub barred : Grammar Word RawSequent
barred = after (is_mark mark.Bar) sequent

-- ## Tree lines

-- "open" | step
abbrev pub node : Grammar Word (Option (RawStep RawBound))
node = form (is_word keyword.Open) (nothing None) (made Some step_with_terms)

-- a tree line, of its place, its step and its goal
abbrev pub raw_tree_line : ℕ × (Option (RawStep RawBound) × RawSequent) → RawTreeLine
raw_tree_line (at, (step, goal)) = record { at = at; step = step; goal = goal }

-- node BAR sequent
abbrev pub tree_line : Grammar Word RawTreeLine
tree_line = made raw_tree_line (with_place (both node barred))

-- a word is in front, and it begins no goal line
abbrev pub begins_tree_line : List Word → Bool
begins_tree_line ts = some_words ts && not (fronted (is_word keyword.Goal) ts)

-- tree lines up to the next goal line or the end
abbrev pub tree_lines : Grammar Word (List RawTreeLine)
tree_lines = repeated begins_tree_line (on_one_line tree_line)

-- ## Goal lines

-- a failure, of its kind, the number of its strategy and its goal
abbrev pub raw_failure : Kind × (RawNumber × RawSequent) → RawFailure
raw_failure (kind, (tac, goal)) = record { kind = kind; tac = tac; goal = goal }

-- a goal line, of its goal's name, the place after the colon and its state
abbrev pub raw_goal_line : RawName × (ℕ × RawState) → RawGoalLine
raw_goal_line (name, (at, state)) = record { name = name; at = at; state = state }

-- the goal failed, so no tree line follows
abbrev pub is_failed : RawState → Bool
is_failed state.Closed = false
is_failed (state.Open n) = false
is_failed (state.Failed f) = true

-- a block, of its goal line and its tree lines
abbrev pub raw_block : RawGoalLine × List RawTreeLine → RawBlock
raw_block (goal, lines) = record { goal = goal; lines = lines }

-- the tree lines after a goal line
abbrev pub lines_after : RawGoalLine → Grammar Word (List RawTreeLine)
lines_after l = choose (λ ts. is_failed l.state) (nothing []) tree_lines

-- "at" "strategy" Num
abbrev pub strategy_number : Grammar Word RawNumber
strategy_number = after (is_word keyword.At) (after (is_word keyword.Strategy) a_number)

-- where names have their numbers by this table
module _ (names : List (List ℕ)) where
  -- Cap "at" "strategy" Num BAR sequent
  abbrev pub failed_line : Grammar Word RawFailure
  failed_line = made raw_failure (both (token (failure_kind_at names)) (both strategy_number barred))

  -- "closed" | Num "open" | "failed" and a failure
  abbrev pub goal_state : Grammar Word RawState
  goal_state =
      form (is_word keyword.Closed) (nothing state.Closed)
      (form (is_word keyword.Failed) (made state.Failed failed_line)
      (made state.Open (ended a_number (is_word keyword.Open))))

  -- "goal" Small : state
  abbrev pub goal_line : Grammar Word RawGoalLine
  goal_line = made raw_goal_line (both (name_behind keyword.Goal) (after (is_mark mark.Colon) (with_place goal_state)))

  -- goal_line tree_line*
  abbrev pub block : Grammar Word RawBlock
  block = made raw_block (then_by (on_one_line goal_line) lines_after)

  -- block*
  abbrev pub file : Grammar Word (List RawBlock)
  file = many block
