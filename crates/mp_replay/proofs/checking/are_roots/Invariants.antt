use Rattle.std.proofs.Common.{◌≡◌, map, take}
use Rattle.mp_logic.specs.Trees.{root_of}
use Rattle.mp_replay.proofs.checking.are_roots.Given as goal

abbrev pub invariant-loop-i : goal.invariant-loop-i
invariant-loop-i g l = take l.i l.goals ≡ map root_of (take l.i l.trees)
