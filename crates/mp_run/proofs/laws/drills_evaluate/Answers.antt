use Rattle.mp_run.specs.Goals.{evaluate_by, goal_work}
use Rattle.mp_run.proofs.laws.drills_evaluate.Goals as goal

pub returns : goal.returns
returns c = λ theory steps entry events replies o trace. c.traces_evaluate.ensures (evaluate_by steps theory entry) (goal_work entry) events replies o trace
