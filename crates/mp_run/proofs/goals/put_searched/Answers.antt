use Rattle.std.proofs.Common.{List, subst, sym}
use Rattle.mp_scripttext.specs.declared.script.Entry.{Entry}
use Rattle.mp_scripttext.specs.Entries.{EachGood}
use Rattle.mp_run.specs.Loaded.{search_seen}
use Rattle.mp_run.specs.Sessions.{IsPiece}
use Rattle.mp_run.proofs.Good.{some_searched}
use Rattle.mp_run.proofs.PutPieces.{all_put, begun, ends, goes_on}
use Rattle.mp_run.proofs.goals.put_searched.Goals as goal

pub loop-entry-init : goal.loop-entry-init
loop-entry-init g c = record {
  going = begun g.K.Sink.puts (IsPiece (search_seen c.args.search.now) c.args.names.now c.args.theory.now) c.args.entries c.args.out.now c.new-waiting.result c.new-waiting.ensures;
  good = subst (λ (es : List Entry). EachGood c.args.theory.now es) (sym c.new-waiting.ensures) c.requires.goals;
}

pub loop-entry-preserved : goal.loop-entry-preserved
loop-entry-preserved g c = record {
  going =
      goes_on g.K.Sink.puts (IsPiece (search_seen c.args.search.now) c.args.names.now c.args.theory.now) c.args.entries c.args.out.now c.loop-entry.waiting c.next.new.self c.in-Some.entry c.in-Some.ensures
      c.loop-entry.out c.put_piece.new.out c.loop-entry.status c.loop-entry.invariant.going c.piece_of-made.result c.in-GoesOn.after c.piece_of-made.ensures c.in-GoesOn.ensures;
  good = (subst (λ (es : List Entry). EachGood c.args.theory.now es) c.in-Some.ensures c.loop-entry.invariant.good).1;
}

pub returns-in-Ends : goal.returns-in-Ends
returns-in-Ends g c =
    let more = (subst (λ (es : List Entry). EachGood c.args.theory.now es) c.in-Some.ensures c.loop-entry.invariant.good).1 in
    ends g.K.Sink.puts (IsPiece (search_seen c.args.search.now) c.args.names.now c.args.theory.now) c.args.entries c.args.out.now c.loop-entry.waiting c.next.new.self c.in-Some.entry c.in-Some.ensures
    c.loop-entry.out c.put_piece.new.out c.loop-entry.status c.loop-entry.invariant.going c.piece_of-made.result c.in-Ends.end c.piece_of-made.ensures c.in-Ends.ensures
    (some_searched c.step_law.ensures.steps c.args.names.now c.args.theory.now c.requires.theory c.some_trace.ensures (search_seen c.args.search.now) c.loop-entry.waiting c.loop-entry.invariant.good)
    (some_searched c.step_law.ensures.steps c.args.names.now c.args.theory.now c.requires.theory c.some_trace.ensures (search_seen c.args.search.now) c.next.new.self more)

pub returns : goal.returns
returns g c =
    all_put g.K.Sink.puts (IsPiece (search_seen c.args.search.now) c.args.names.now c.args.theory.now) c.args.entries c.args.out.now c.loop-entry.waiting c.loop-entry.out c.loop-entry.status
    c.loop-entry.invariant.going c.in_default.ensures.0
