use Rattle.std.proofs.Common.{length}
use Rattle.std.specs.Prelude.{zip}
use Rattle.mp_scripttext.specs.Entries.{EachGood}
use Rattle.mp_treetext.specs.Printed.{EachGoodPrinted}
use Rattle.mp_run.specs.Replays.{IsReplayed}
use Rattle.mp_run.proofs.PutPieces.{Going}
use Rattle.mp_run.proofs.goals.put_replayed.Given as goal

abbrev pub decreases-loop-entry : goal.decreases-loop-entry
decreases-loop-entry g l = length l.goals

-- what completes the puts from here completes them from the start
abbrev pub invariant-loop-entry : goal.invariant-loop-entry
invariant-loop-entry g l = record {
  going : Going g.K.Sink.puts (IsReplayed l.fn.names l.fn.theory) (zip l.fn.entries l.fn.printed) l.initial.out (zip l.goals l.rest) l.out l.status;
  good : EachGood l.fn.theory l.goals;
  checkable : EachGoodPrinted l.fn.theory l.rest;
}
