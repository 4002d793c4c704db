use Rattle.std.proofs.Common.{◌≡◌, ◌≤◌, ◌+◌, ◌++◌, drop, length}
use Rattle.mp_termtext.specs.Printing.{hyps_text, further_hyps_text}
use Rattle.mp_termtext.proofs.print.push_hyps.Given as goal

abbrev pub invariant-loop-hyp : goal.invariant-loop-hyp
invariant-loop-hyp l = record {
  text : l.out.items ++ further_hyps_text l.names l.level (drop l.hyp-index l.rest) ≡ l.fn.out.items ++ hyps_text l.fn.names l.fn.hyps;
  count : l.level ≡ l.hyp-index + 1;
  grown : length l.fn.out.items + l.level ≤ length l.out.items;
}
