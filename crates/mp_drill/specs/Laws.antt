-- What is said of the traces of schedules.
use Rattle.std.specs.Prelude.{◌≡◌, ◌<◌, List, length}
use Rattle.mp_logic.specs.Meaning.{Meaning}
use Rattle.mp_strategy.specs.declared.problem.ProblemState.{ProblemState}
use Rattle.mp_strategy.specs.declared.work.Work.{Work}
use Rattle.mp_strategy.specs.declared.outcome.Outcome.{Outcome}
use Rattle.mp_strategy.specs.Evaluation.{eval}
use Rattle.mp_strategy.specs.Strategies.{Evals}
use Rattle.mp_drill.specs.declared.schedule.Event.{Event}
use Rattle.mp_drill.specs.declared.schedule.Reply.{Reply}
use Rattle.mp_drill.specs.Trace.{IsTrace}

module _ {G : Type 0} where
  -- two traces of one work and one schedule have the same replies and the same outcome
  abbrev pub OneTrace : (Work G → Outcome G) → Type 0
  OneTrace eval = (work : Work G) (events : List Event) (replies others : List Reply) (o p : Outcome G)
      → IsTrace eval work events replies o → IsTrace eval work events others p → (replies ≡ others) × (o ≡ p)

  -- the outcome of a trace is what its work evaluates to
  abbrev pub TracesEvaluate : (Work G → Outcome G) → Type 0
  TracesEvaluate eval = (work : Work G) (events : List Event) (replies : List Reply) (o : Outcome G) → IsTrace eval work events replies o → o ≡ eval work

  -- each schedule of each work has a trace, and it ends with what the work evaluates to
  abbrev pub SomeTrace : (Work G → Outcome G) → Type 0
  SomeTrace eval = (work : Work G) (events : List Event) → (replies : List Reply) × IsTrace eval work events replies (eval work)

  -- a trace is one of each evaluation that gives the trace's work the same outcome
  abbrev pub SameTraces : (Work G → Outcome G) → (Work G → Outcome G) → Type 0
  SameTraces eval other = (work : Work G) (events : List Event) (replies : List Reply) (o : Outcome G)
      → eval work ≡ other work → IsTrace eval work events replies o → IsTrace other work events replies o

-- the outcome of a trace is one that the relation allows, where evaluation gives what its works do
abbrev pub TracesAreAllowed : {L G J : Type 0} → (L → Meaning G J) → ProblemState L J → Type 0
TracesAreAllowed {L} {G} meaning p =
    (work : Work G) (events : List Event) (replies : List Reply) (o : Outcome G) → work.tac.0 < length p.tacs → IsTrace (eval meaning p) work events replies o → Evals meaning p work o
