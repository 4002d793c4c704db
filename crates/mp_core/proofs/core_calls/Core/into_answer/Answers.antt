use Rattle.std.proofs.Common.{rules, ◌≡◌, Some}
use Rattle.mp_strategy.specs.Strategies.{Evals}
use Rattle.mp_core.specs.Machine.{answer_of}
use Rattle.mp_core.proofs.Soundness.{answer_true}
use Rattle.mp_core.proofs.Validity.{evals_valid}
use Rattle.mp_core.proofs.core_calls.Core.into_answer.Goals as goal

pub returns-in-Done-clause-valid : goal.returns-in-Done-clause-valid
returns-in-Done-clause-valid g c sound =
    let core = c.args.self in
    let answered : answer_of core.machine ≡ Some c.in-Done.outcome = search rules in
    evals_valid g.L.Logic.meaning core.problem core.machine.work c.in-Done.outcome
    (answer_true (Evals g.L.Logic.meaning core.problem) core.machine c.in-Done.outcome sound answered)
