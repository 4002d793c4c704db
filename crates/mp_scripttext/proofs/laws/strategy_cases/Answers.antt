use Rattle.mp_scripttext.proofs.StrategyUnfolds.{strategy_unfolds}
use Rattle.mp_scripttext.proofs.laws.strategy_cases.Goals as goal

pub returns : goal.returns
returns c = strategy_unfolds
