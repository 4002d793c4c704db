use Rattle.std.proofs.Common.{sym, subst}
use Rattle.mp_strategy.specs.Evaluation.{eval}
use Rattle.mp_strategy.specs.Strategies.{Evals}
use Rattle.mp_strategy.proofs.Allowed.{eval_allowed}
use Rattle.mp_drill.proofs.Outcomes.{trace_gives_eval}
use Rattle.mp_drill.proofs.laws.traces_are_allowed.Goals as goal

pub returns : goal.returns
returns g c = λ work events replies o lt trace.
    let meaning = g.L.Logic.meaning in
    let p = c.args.problem.now in
    subst (λ x. Evals meaning p work x) (sym (trace_gives_eval (eval meaning p) work events replies o trace)) (eval_allowed meaning p c.known.ensures work lt)
