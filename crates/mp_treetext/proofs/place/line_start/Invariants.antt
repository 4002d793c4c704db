use Rattle.std.proofs.Common.{◌≡◌}
use Rattle.mp_treetext.specs.Places.{line_start}
use Rattle.mp_treetext.proofs.place.line_start.Given as goal

abbrev pub invariant-loop-start : goal.invariant-loop-start
invariant-loop-start l = line_start l.source l.start ≡ line_start l.source l.at

abbrev pub decreases-loop-start : goal.decreases-loop-start
decreases-loop-start l = l.start
