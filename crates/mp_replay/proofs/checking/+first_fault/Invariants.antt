use Rattle.std.proofs.Common.{◌<◌, ◌^◌, drop}
use Rattle.std.specs.List.{flat_map, AllByRecursion}
use Rattle.mp_replay.specs.Conditions.{CanReplay}
use Rattle.mp_replay.specs.Nodes.{preorder_of}
use Rattle.mp_replay.proofs.Walks.{GoesOn}
use Rattle.mp_replay.proofs.checking.+first_fault.Given as goal

abbrev pub invariant-loop-kid : goal.invariant-loop-kid
invariant-loop-kid g l = record {
  fits : l.seen < 2 ^ 64;
  can : AllByRecursion (CanReplay (g.L.Logic.meaning l.logic) l.justs) (drop l.kid-index l.kid-items);
  goes_on : GoesOn (g.L.Logic.meaning l.logic).step l.justs (flat_map preorder_of (drop l.kid-index l.kid-items)) l.seen (preorder_of l.fn.tree) l.fn.seen;
}
