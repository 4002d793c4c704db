use Rattle.std.proofs.Common.{◌*◌, ◌+◌, ◌≤◌, ◌<◌, length}
use Rattle.mp_words.specs.declared.word.Mark.TheVariants as mark
use Rattle.mp_words.specs.Fronts.{is_mark}
use Rattle.mp_words.proofs.Steps.{RowLeft}
use Rattle.mp_scripttext.specs.Grammar.{strategy}
use Rattle.mp_scripttext.proofs.StrategySteps.{ChainLeft, StrategyLeft}
use Rattle.mp_scripttext.proofs.strategy.+parsing.Given as goal

abbrev pub decreases-parse_list : goal.decreases-parse_list
decreases-parse_list l = 8 * length l.words.now

abbrev pub decreases-parse_simple : goal.decreases-parse_simple
decreases-parse_simple l = 8 * length l.words.now

abbrev pub decreases-parse_link : goal.decreases-parse_link
decreases-parse_link l = 8 * length l.words.now

abbrev pub decreases-parse_argument : goal.decreases-parse_argument
decreases-parse_argument l = 8 * length l.words.now + 1

abbrev pub decreases-parse_atom : goal.decreases-parse_atom
decreases-parse_atom l = 8 * length l.words.now + 2

abbrev pub decreases-parse_chain : goal.decreases-parse_chain
decreases-parse_chain l = 8 * length l.words.now + 3

abbrev pub decreases-parse_strategy : goal.decreases-parse_strategy
decreases-parse_strategy l = 8 * length l.words.now + 4

abbrev pub decreases-parse_group : goal.decreases-parse_group
decreases-parse_group l = 8 * length l.words.now + 5

abbrev pub decreases-parse_strategies : goal.decreases-parse_strategies
decreases-parse_strategies l = 8 * length l.words.now + 5

abbrev pub decreases-parse_chain-loop-alloc : goal.decreases-parse_chain-loop-alloc
decreases-parse_chain-loop-alloc l = length l.at

abbrev pub decreases-parse_strategies-loop-read : goal.decreases-parse_strategies-loop-read
decreases-parse_strategies-loop-read l = length l.at

abbrev pub decreases-parse_strategy-loop-rest : goal.decreases-parse_strategy-loop-rest
decreases-parse_strategy-loop-rest l = length l.at

abbrev pub invariant-parse_chain-loop-alloc : goal.invariant-parse_chain-loop-alloc
invariant-parse_chain-loop-alloc l = record {
  left : ChainLeft l.first l.links l.at l.words;
  within : length l.at < length l.words;
}

abbrev pub invariant-parse_strategies-loop-read : goal.invariant-parse_strategies-loop-read
invariant-parse_strategies-loop-read l = record {
  left : RowLeft strategy (is_mark mark.Semicolon) (is_mark mark.CloseBracket) l.items l.at l.words;
  within : length l.at ≤ length l.words;
}

abbrev pub invariant-parse_strategy-loop-rest : goal.invariant-parse_strategy-loop-rest
invariant-parse_strategy-loop-rest l = record {
  left : StrategyLeft l.strategy l.at l.words;
  within : length l.at < length l.words;
}
