use Rattle.std.proofs.Common.{◌+◌, ◌-◌, ◌≤◌, length}
use Rattle.mp_names.specs.Table.{Extends}
use Rattle.mp_words.proofs.Lexing.{ReadSoFar}
use Rattle.mp_words.proofs.lexed.lex_text.Given as goal

abbrev pub decreases-loop-token : goal.decreases-loop-token
decreases-loop-token l = length l.source - l.at

abbrev pub invariant-loop-token : goal.invariant-loop-token
invariant-loop-token l = record {
  so_far : ReadSoFar l.fn.names l.source l.words l.names l.at l.depth;
  within : l.at ≤ length l.source;
  shallow : l.depth ≤ 250;
  few : length l.words ≤ l.at;
  grown : Extends l.fn.names l.names;
  few_names : length l.names ≤ length l.fn.names + l.at;
}
