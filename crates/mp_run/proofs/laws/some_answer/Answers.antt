use Rattle.mp_run.proofs.SomeAnswer.{some_answer}
use Rattle.mp_run.proofs.laws.some_answer.Goals as goal

pub returns : goal.returns
returns c = some_answer c.step_law.ensures.steps c.some_trace.ensures c.read_theories_are_theories.ensures c.read_goals_are_good.ensures c.read_trees_are_good.ensures c.theory_laws.ensures.theories.0 c.some_text.ensures c.some_text-2.ensures c.some_schedule_text.ensures c.some_trees_text.ensures
