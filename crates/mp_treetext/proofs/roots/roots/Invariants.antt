use Rattle.std.proofs.Common.{◌≡◌, reverse, length}
use Rattle.mp_treetext.specs.Values.{roots_of}
use Rattle.mp_treetext.proofs.RootFacts.{roots_onto}
use Rattle.mp_treetext.proofs.roots.roots.Given as goal

-- the lines that are left are put before these trees, the last one first
abbrev pub invariant-loop-line : goal.invariant-loop-line
invariant-loop-line l = roots_onto (reverse l.roots.items) l.lines ≡ roots_of l.fn.lines

abbrev pub decreases-loop-line : goal.decreases-loop-line
decreases-loop-line l = length l.lines
