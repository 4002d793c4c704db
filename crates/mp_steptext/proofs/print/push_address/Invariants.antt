use Rattle.std.proofs.Common.{◌≡◌, ◌++◌, map, drop, codes}
use Rattle.mp_termtext.specs.Printing.{further_text}
use Rattle.mp_steptext.specs.Printing.{address_text, subterm_text}
use Rattle.mp_steptext.proofs.print.push_address.Given as goal

abbrev pub invariant-loop-number : goal.invariant-loop-number
invariant-loop-number l = l.out.items ++ further_text (codes "]") (map subterm_text (drop l.number-index l.rest)) ≡ l.fn.out.items ++ address_text l.fn.address
