use Rattle.std.proofs.Common.{◌≡◌, ◌++◌, map, drop, codes}
use Rattle.mp_termtext.proofs.Printed.{rest_text}
use Rattle.mp_steptext.specs.Printing.{all_given_text}
use Rattle.mp_steptext.proofs.print.push_all_given.Given as goal

abbrev pub invariant-loop-one : goal.invariant-loop-one
invariant-loop-one g l = l.out.items ++ rest_text (codes " with [") (codes "]") l.begun (map (g.B.Body.text l.names) (drop l.one-index l.given)) ≡ l.fn.out.items ++ all_given_text (g.B.Body.text l.names) l.fn.given
