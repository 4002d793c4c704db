-- What a strategy is, by cases.
use Rattle.std.specs.Prelude.{◌≡◌, List}
use Rattle.mp_words.specs.declared.word.Word.{Word}
use Rattle.mp_scripttext.specs.Grammar.{strategy, strategy_by}

-- at any words a strategy is read, or is stuck, as chains with `orelse` between each two are: a chain is atoms with `then` before each
-- further one, or `thenl` and a list of strategies, and an atom has strategies in its parentheses and in its brackets
abbrev pub StrategyIsChains : Type 0
StrategyIsChains = (ts : List Word) → strategy ts ≡ strategy_by strategy ts
