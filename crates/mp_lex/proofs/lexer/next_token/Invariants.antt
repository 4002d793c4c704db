use Rattle.std.proofs.Common.{◌≡◌, ◌-◌, ◌≤◌, drop, length}
use Rattle.mp_lex.specs.Lex.{found_from, lex_from}
use Rattle.mp_lex.proofs.lexer.next_token.Given as goal

abbrev pub decreases-loop-at : goal.decreases-loop-at
decreases-loop-at l = length l.source - l.at

abbrev pub invariant-loop-at : goal.invariant-loop-at
invariant-loop-at l = record {
  within : l.at ≤ length l.source;
  behind : l.from ≤ l.at;
  reads : lex_from 0 l.depth l.from (drop l.from l.source) ≡ lex_from 0 l.depth l.at (drop l.at l.source);
  finds : found_from 0 l.depth l.from (drop l.from l.source) ≡ found_from 0 l.depth l.at (drop l.at l.source);
}
