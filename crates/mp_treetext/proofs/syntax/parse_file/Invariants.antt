use Rattle.std.proofs.Common.{◌≤◌, length}
use Rattle.mp_words.specs.Grammars.{some_words}
use Rattle.mp_words.proofs.Steps.{RepeatedLeft}
use Rattle.mp_treetext.specs.Few.{EachFew}
use Rattle.mp_treetext.specs.Grammar.{block}
use Rattle.mp_treetext.proofs.syntax.parse_file.Given as goal

abbrev pub decreases-loop-at : goal.decreases-loop-at
decreases-loop-at l = length l.at

abbrev pub invariant-loop-at : goal.invariant-loop-at
invariant-loop-at l = record {
  left : RepeatedLeft some_words (block l.names) l.blocks l.at l.words;
  shorter : length l.at ≤ length l.words;
  few : EachFew (length l.words) l.blocks;
}
