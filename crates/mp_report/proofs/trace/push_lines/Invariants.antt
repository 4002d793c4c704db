use Rattle.std.proofs.Common.{◌≡◌, ◌++◌, drop}
use Rattle.mp_report.specs.Traces.{lines_text}
use Rattle.mp_report.proofs.trace.push_lines.Given as goal

abbrev pub invariant-loop-at : goal.invariant-loop-at
invariant-loop-at l = l.out.items ++ lines_text (drop l.at l.events) (drop l.at l.replies) ≡ l.fn.out.items ++ lines_text l.fn.events l.fn.replies
