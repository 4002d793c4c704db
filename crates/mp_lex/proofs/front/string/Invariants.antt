use Rattle.std.proofs.Common.{◌≡◌, drop, false}
use Rattle.mp_lex.proofs.Strings.{string_at}
use Rattle.mp_lex.proofs.front.string.Given as goal

abbrev pub invariant-loop-i : goal.invariant-loop-i
invariant-loop-i l = string_at l.escaped l.i (drop l.i l.rest) ≡ string_at false 0 l.rest
