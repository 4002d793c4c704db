use Rattle.std.proofs.Common.{◌≡◌, ◌≤◌, ◌++◌, ◌+◌, ◌-◌, length}
use Rattle.mp_termtext.specs.Printing.{binders_text, further_binders_text}
use Rattle.mp_termtext.proofs.print.push_binders.Given as goal

abbrev pub invariant-loop-i : goal.invariant-loop-i
invariant-loop-i l = record {
  text : l.out.items ++ further_binders_text (l.scope + l.i) (l.count - l.i) ≡ l.fn.out.items ++ binders_text l.scope l.count;
  grown : length l.fn.out.items + l.i ≤ length l.out.items;
}
