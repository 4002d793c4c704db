use Rattle.std.proofs.Common.{◌≡◌, List, length}
use Rattle.mp_words.specs.Grammars.{some_words}
use Rattle.mp_words.proofs.Steps.{RepeatedLeft}
use Rattle.mp_scripttext.specs.declared.raw.RawEntry.{RawEntry}
use Rattle.mp_scripttext.specs.Goals.{with_goals}
use Rattle.mp_scripttext.specs.Grammar.{entry}
use Rattle.mp_scripttext.proofs.goals.read_goals.Given as goal

abbrev pub decreases-loop-at : goal.decreases-loop-at
decreases-loop-at l = length l.at

-- some goals were read, and these are kept
abbrev pub invariant-loop-at : goal.invariant-loop-at
invariant-loop-at l = (raws : List RawEntry) × RepeatedLeft some_words entry raws l.at l.words × (l.goals ≡ with_goals l.theory l.fn.goals raws)
