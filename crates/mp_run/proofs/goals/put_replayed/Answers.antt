use Rattle.std.proofs.Common.{◌≡◌, List, ap, subst, sym, ◌∙◌}
use Rattle.std.specs.Prelude.{zip}
use Rattle.mp_scripttext.specs.declared.script.Entry.{Entry}
use Rattle.mp_scripttext.specs.Entries.{EachGood}
use Rattle.mp_treetext.specs.declared.printed.Printed.{Printed}
use Rattle.mp_treetext.specs.Printed.{EachGoodPrinted}
use Rattle.mp_run.specs.Replays.{IsReplayed}
use Rattle.mp_run.proofs.Good.{some_checked, zip_next, zip_no_block, zip_no_goal}
use Rattle.mp_run.proofs.PutPieces.{all_put, begun, ends, goes_on}
use Rattle.mp_run.proofs.goals.put_replayed.Goals as goal

pub loop-entry-init : goal.loop-entry-init
loop-entry-init g c =
    let same : zip c.new-goals.result c.new-rest.result ≡ zip c.args.entries c.args.printed =
    ap (λ (es : List Entry). zip es c.new-rest.result) c.new-goals.ensures ∙ ap (λ (bs : List Printed). zip c.args.entries bs) c.new-rest.ensures in
    record {
      going = begun g.K.Sink.puts (IsReplayed c.args.names.now c.args.theory.now) (zip c.args.entries c.args.printed) c.args.out.now (zip c.new-goals.result c.new-rest.result) same;
      good = subst (λ (es : List Entry). EachGood c.args.theory.now es) (sym c.new-goals.ensures) c.requires.goals;
      checkable = subst (λ (bs : List Printed). EachGoodPrinted c.args.theory.now bs) (sym c.new-rest.ensures) c.requires.checkable;
    }

pub loop-entry-preserved : goal.loop-entry-preserved
loop-entry-preserved g c = record {
  going =
      goes_on g.K.Sink.puts (IsReplayed c.args.names.now c.args.theory.now) (zip c.args.entries c.args.printed) c.args.out.now (zip c.loop-entry.goals c.loop-entry.rest)
      (zip c.next.new.self c.next-in-Some.new.self) (c.in-Some.entry, c.in-Some-next.block)
      (zip_next c.in-Some.entry c.in-Some-next.block c.loop-entry.goals c.next.new.self c.loop-entry.rest c.next-in-Some.new.self c.in-Some.ensures c.in-Some-next.ensures)
      c.loop-entry.out c.put_piece.new.out c.loop-entry.status c.loop-entry.invariant.going c.replay_piece-made.result c.in-GoesOn.after c.replay_piece-made.ensures c.in-GoesOn.ensures;
  good = (subst (λ (es : List Entry). EachGood c.args.theory.now es) c.in-Some.ensures c.loop-entry.invariant.good).1;
  checkable = (subst (λ (bs : List Printed). EachGoodPrinted c.args.theory.now bs) c.in-Some-next.ensures c.loop-entry.invariant.checkable).1;
}

pub returns-in-Ends : goal.returns-in-Ends
returns-in-Ends g c =
    let more = (subst (λ (es : List Entry). EachGood c.args.theory.now es) c.in-Some.ensures c.loop-entry.invariant.good).1 in
    let left = (subst (λ (bs : List Printed). EachGoodPrinted c.args.theory.now bs) c.in-Some-next.ensures c.loop-entry.invariant.checkable).1 in
    ends g.K.Sink.puts (IsReplayed c.args.names.now c.args.theory.now) (zip c.args.entries c.args.printed) c.args.out.now (zip c.loop-entry.goals c.loop-entry.rest)
    (zip c.next.new.self c.next-in-Some.new.self) (c.in-Some.entry, c.in-Some-next.block)
    (zip_next c.in-Some.entry c.in-Some-next.block c.loop-entry.goals c.next.new.self c.loop-entry.rest c.next-in-Some.new.self c.in-Some.ensures c.in-Some-next.ensures)
    c.loop-entry.out c.put_piece.new.out c.loop-entry.status c.loop-entry.invariant.going c.replay_piece-made.result c.in-Ends.end c.replay_piece-made.ensures c.in-Ends.ensures
    (some_checked c.step_law.ensures.steps c.args.names.now c.args.theory.now c.requires.theory c.loop-entry.goals c.loop-entry.rest c.loop-entry.invariant.good c.loop-entry.invariant.checkable)
    (some_checked c.step_law.ensures.steps c.args.names.now c.args.theory.now c.requires.theory c.next.new.self c.next-in-Some.new.self more left)

pub returns : goal.returns
returns g c =
    all_put g.K.Sink.puts (IsReplayed c.args.names.now c.args.theory.now) (zip c.args.entries c.args.printed) c.args.out.now (zip c.loop-entry.goals c.loop-entry.rest) c.loop-entry.out c.loop-entry.status
    c.loop-entry.invariant.going (zip_no_goal c.loop-entry.goals c.loop-entry.rest c.in_default.ensures.0)

pub returns-in_default-next : goal.returns-in_default-next
returns-in_default-next g c =
    all_put g.K.Sink.puts (IsReplayed c.args.names.now c.args.theory.now) (zip c.args.entries c.args.printed) c.args.out.now (zip c.loop-entry.goals c.loop-entry.rest) c.loop-entry.out c.loop-entry.status
    c.loop-entry.invariant.going (zip_no_block c.in-Some.entry c.loop-entry.goals c.next.new.self c.loop-entry.rest c.in-Some.ensures c.in_default-next.ensures.0)
