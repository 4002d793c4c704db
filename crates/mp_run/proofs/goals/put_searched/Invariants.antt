use Rattle.std.proofs.Common.{length}
use Rattle.mp_scripttext.specs.Entries.{EachGood}
use Rattle.mp_run.specs.Loaded.{search_seen}
use Rattle.mp_run.specs.Sessions.{IsPiece}
use Rattle.mp_run.proofs.PutPieces.{Going}
use Rattle.mp_run.proofs.goals.put_searched.Given as goal

abbrev pub decreases-loop-entry : goal.decreases-loop-entry
decreases-loop-entry g l = length l.waiting

-- what completes the puts from here completes them from the start
abbrev pub invariant-loop-entry : goal.invariant-loop-entry
invariant-loop-entry g l = record {
  going : Going g.K.Sink.puts (IsPiece (search_seen l.fn.search) l.fn.names l.fn.theory) l.fn.entries l.initial.out l.waiting l.out l.status;
  good : EachGood l.fn.theory l.waiting;
}
