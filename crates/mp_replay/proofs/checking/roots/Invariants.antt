use Rattle.std.proofs.Common.{◌≡◌, map, take}
use Rattle.mp_logic.specs.Trees.{root_of}
use Rattle.mp_replay.proofs.checking.roots.Given as goal

abbrev pub invariant-loop-tree : goal.invariant-loop-tree
invariant-loop-tree g l = l.goals ≡ map root_of (take l.tree-index l.trees)
