use Rattle.std.proofs.Common.{◌≡◌, ◌≤◌, ◌++◌, map, drop, codes, length}
use Rattle.mp_termtext.specs.Printing.{text_at_scope, term_text, bound_text}
use Rattle.mp_termtext.proofs.Printed.{rest_text}
use Rattle.mp_termtext.proofs.print.+printing.Given as goal

abbrev pub invariant-push_in-loop-sub : goal.invariant-push_in-loop-sub
invariant-push_in-loop-sub l = record {
  text : l.out.items ++ rest_text (codes "{") (codes "}") l.begun (map (text_at_scope l.scope) (map (bound_text l.names) (drop l.sub-index l.sub-items))) ≡ l.fn.out.items ++ term_text l.fn.names l.fn.t l.scope;
  grown : length l.fn.out.items ≤ length l.out.items;
}
