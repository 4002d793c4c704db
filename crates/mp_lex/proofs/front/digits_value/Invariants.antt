use Rattle.std.proofs.Common.{◌≡◌, min, take}
use Rattle.mp_lex.specs.Forms.{number_of_digits}
use Rattle.mp_lex.proofs.front.digits_value.Given as goal

abbrev pub invariant-loop-b : goal.invariant-loop-b
invariant-loop-b l = l.total ≡ min (number_of_digits (take l.b-index l.digits)) 18446744073709551615
