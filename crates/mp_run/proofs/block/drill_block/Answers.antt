use Rattle.std.proofs.Common.{◌≡◌, ◌∙◌, ◌++◌, ap, sym, subst, List, IsTrue}
use Rattle.mp_theory.specs.declared.just.Just.{Just}
use Rattle.mp_theory.specs.Tables.{Laws}
use Rattle.mp_refiner.specs.Steps.{meaning_of}
use Rattle.mp_term.specs.declared.sequent.Sequent.{Sequent}
use Rattle.mp_strategy.specs.declared.problem.ProblemState.{ProblemState}
use Rattle.mp_strategy.specs.declared.work.Work.{Work}
use Rattle.mp_strategy.specs.Evaluation.{eval}
use Rattle.mp_strategy.specs.Laws.{IsSound}
use Rattle.mp_drill.specs.declared.schedule.Event.{Event}
use Rattle.mp_drill.specs.Ranges.{are_in_range}
use Rattle.mp_drill.specs.Sections.{events_of}
use Rattle.mp_drill.specs.Trace.{IsTrace}
use Rattle.mp_report.specs.Results.{result_text}
use Rattle.mp_report.specs.Traces.{trace_text}
use Rattle.mp_run.proofs.GoalPieces.{on_goal, drilled, appended}
use Rattle.mp_run.proofs.block.drill_block.Goals as goal

pub drill-requires-clause-events : goal.drill-requires-clause-events
drill-requires-clause-events c lifetimes =
    let P : List Event → Type 0 = λ es. IsTrue (are_in_range es) in
    subst P (sym c.events-events.ensures) (c.requires.range c.args.entry.name)

pub returns : goal.returns
returns c =
    let justs = ap (λ (p : ProblemState Laws Just). p.justs) (c.problem.view_is ∙ c.new-problem.ensures) in
    drilled c.step_law.ensures.steps c.args.names.now c.args.theory.now c.args.entry c.requires.theory c.requires.good c.events-events.result.now (events_of c.args.sections.now c.args.entry.name) c.in_ok-replies.outcome c.in_ok-replies.replies
    c.from_vec.result c.verdict_of.result c.events-events.ensures
    (on_goal c.step_law.ensures.steps c.args.names.now c.args.theory.now c.args.entry c.requires.theory c.requires.good (λ (p : ProblemState Laws Just) (w : Work Sequent). IsTrace (eval meaning_of p) w c.events-events.result.now c.in_ok-replies.replies c.in_ok-replies.outcome) c.new-refiner.result c.new-problem.result c.of-work.result c.new-refiner.ensures c.new-problem.ensures c.of-work.ensures.value c.in_ok-replies.ensures.trace)
    (on_goal c.step_law.ensures.steps c.args.names.now c.args.theory.now c.args.entry c.requires.theory c.requires.good (λ (p : ProblemState Laws Just) (w : Work Sequent). IsSound meaning_of p w c.in_ok-replies.outcome) c.new-refiner.result c.new-problem.result c.of-work.result c.new-refiner.ensures c.new-problem.ensures c.of-work.ensures.value c.in_ok-replies.ensures.valid)
    (subst (λ (js : List Just). c.from_vec.result ≡ trace_text c.args.names.now c.args.entry.name c.events-events.result.now c.in_ok-replies.replies ++ result_text c.args.names.now c.args.theory.now c.args.entry.name js c.in_ok-replies.outcome) justs
    (appended _ _ _ _ _ _ c.from_vec.ensures c.in_ok-push_result.ensures c.in_ok-push_trace.ensures c.new-text.ensures.items))
    c.verdict_of.ensures
