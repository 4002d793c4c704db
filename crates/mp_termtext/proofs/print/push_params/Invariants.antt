use Rattle.std.proofs.Common.{◌≡◌, ◌++◌, map, drop, codes}
use Rattle.mp_termtext.specs.Printing.{param_text, list_text}
use Rattle.mp_termtext.proofs.Printed.{rest_text}
use Rattle.mp_termtext.proofs.print.push_params.Given as goal

abbrev pub invariant-loop-param : goal.invariant-loop-param
invariant-loop-param l = l.out.items ++ rest_text (codes "[") (codes "]") l.begun (map (param_text l.names) (drop l.param-index l.param-items)) ≡ l.fn.out.items ++ list_text (codes "[") (codes "]") (map (param_text l.fn.names) l.fn.params)
