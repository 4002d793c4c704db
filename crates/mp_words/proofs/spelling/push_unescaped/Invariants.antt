use Rattle.std.proofs.Common.{◌≡◌, ◌++◌, drop, false}
use Rattle.mp_words.specs.Words.{unescaped}
use Rattle.mp_words.proofs.spelling.push_unescaped.Given as goal

abbrev pub invariant-loop-byte : goal.invariant-loop-byte
invariant-loop-byte l = l.out.items ++ unescaped l.escaped (drop l.byte-index l.bytes) ≡ l.fn.out.items ++ unescaped false l.bytes
