use Rattle.std.proofs.Common.{◌≡◌, ◌++◌, reverse, length}
use Rattle.mp_treetext.specs.Values.{kids_of, others_of}
use Rattle.mp_treetext.proofs.roots.put_line.Given as goal

abbrev pub invariant-loop-root : goal.invariant-loop-root
invariant-loop-root l = record {
  kids : l.kids ++ kids_of l.depth (reverse l.roots.items) ≡ kids_of l.depth (reverse l.initial.roots.items);
  others : others_of l.depth (reverse l.roots.items) ≡ others_of l.depth (reverse l.initial.roots.items);
}

abbrev pub decreases-loop-root : goal.decreases-loop-root
decreases-loop-root l = length l.roots.items
