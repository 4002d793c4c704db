use Rattle.mp_run.proofs.SessionLaws.{session_writes, session_cause, session_answer, session_usage}
use Rattle.mp_run.proofs.Courses.{keeps}
use Rattle.mp_run.proofs.laws.runs_answer.Goals as goal

pub returns-clause-writes : goal.returns-clause-writes
returns-clause-writes g c = λ s t o p reads puts command end h k session.
    session_writes g.H.Shelf.reads g.H.Shelf.bytes g.H.Shelf.faults g.H.Shelf.longs g.met.H.Shelf.told g.met.H.Shelf.cause g.met.H.Shelf.kept
    g.K.Sink.puts g.K.Sink.taken g.K.Sink.faults g.met.K.Sink.takes g.met.K.Sink.cause s t o p reads puts h k command end session

pub returns-clause-cause : goal.returns-clause-cause
returns-clause-cause g c = λ s t o p reads puts command end h k session.
    session_cause g.H.Shelf.reads g.H.Shelf.bytes g.H.Shelf.faults g.H.Shelf.longs g.met.H.Shelf.told g.met.H.Shelf.cause g.met.H.Shelf.kept
    g.K.Sink.puts g.K.Sink.taken g.K.Sink.faults g.met.K.Sink.takes g.met.K.Sink.cause s t o p reads puts h k command end session

pub returns-clause-kept : goal.returns-clause-kept
returns-clause-kept g c = λ s t reads h. keeps g.H.Shelf.reads g.H.Shelf.bytes g.H.Shelf.faults g.H.Shelf.longs g.met.H.Shelf.kept s t reads h

pub returns-clause-answer : goal.returns-clause-answer
returns-clause-answer g c = λ s t o p reads puts command end h k session q u m.
    session_answer g.H.Shelf.reads g.H.Shelf.bytes g.H.Shelf.faults g.H.Shelf.longs g.met.H.Shelf.told g.met.H.Shelf.cause g.met.H.Shelf.kept
    g.K.Sink.puts g.K.Sink.taken g.K.Sink.faults g.met.K.Sink.takes g.met.K.Sink.cause s t o p reads puts h k command end session q u m

pub returns-clause-usage : goal.returns-clause-usage
returns-clause-usage g c = λ s t o p reads puts end h k session.
    session_usage g.H.Shelf.reads g.H.Shelf.bytes g.H.Shelf.faults g.H.Shelf.longs g.met.H.Shelf.told g.met.H.Shelf.cause g.met.H.Shelf.kept
    g.K.Sink.puts g.K.Sink.taken g.K.Sink.faults g.met.K.Sink.takes g.met.K.Sink.cause s t o p reads puts h k end session
