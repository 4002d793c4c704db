use Rattle.std.proofs.Common.{◌≡◌, ◌∙◌, ap, subst, List}
use Rattle.mp_theory.specs.declared.just.Just.{Just}
use Rattle.mp_theory.specs.Tables.{Laws}
use Rattle.mp_refiner.specs.Steps.{meaning_of}
use Rattle.mp_term.specs.declared.sequent.Sequent.{Sequent}
use Rattle.mp_strategy.specs.declared.problem.ProblemState.{ProblemState}
use Rattle.mp_strategy.specs.declared.work.Work.{Work}
use Rattle.mp_strategy.specs.Evaluation.{eval}
use Rattle.mp_strategy.specs.Laws.{IsSound}
use Rattle.mp_report.specs.Results.{result_text}
use Rattle.mp_run.proofs.GoalPieces.{on_goal, evaluated}
use Rattle.mp_run.proofs.block.seq_block.Goals as goal

pub returns : goal.returns
returns c =
    let justs = ap (λ (p : ProblemState Laws Just). p.justs) (c.problem.view_is ∙ c.new-problem.ensures) in
    evaluated c.step_law.ensures.steps c.args.names.now c.args.theory.now c.args.entry c.requires.theory c.requires.good c.in_ok-outcome.outcome c.in_ok-text.text c.verdict_of.result
    (on_goal c.step_law.ensures.steps c.args.names.now c.args.theory.now c.args.entry c.requires.theory c.requires.good (λ (p : ProblemState Laws Just) (w : Work Sequent). c.in_ok-outcome.outcome ≡ eval meaning_of p w) c.new-refiner.result c.new-problem.result c.of-work.result c.new-refiner.ensures c.new-problem.ensures c.of-work.ensures.value c.in_ok-outcome.ensures.value)
    (on_goal c.step_law.ensures.steps c.args.names.now c.args.theory.now c.args.entry c.requires.theory c.requires.good (λ (p : ProblemState Laws Just) (w : Work Sequent). IsSound meaning_of p w c.in_ok-outcome.outcome) c.new-refiner.result c.new-problem.result c.of-work.result c.new-refiner.ensures c.new-problem.ensures c.of-work.ensures.value c.in_ok-outcome.ensures.valid)
    (subst (λ (js : List Just). c.in_ok-text.text ≡ result_text c.args.names.now c.args.theory.now c.args.entry.name js c.in_ok-outcome.outcome) justs c.in_ok-text.ensures) c.verdict_of.ensures
