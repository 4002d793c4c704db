use Rattle.mp_run.proofs.OneAnswer.{one_answer}
use Rattle.mp_run.proofs.laws.one_answer.Goals as goal

pub returns : goal.returns
returns c = one_answer c.step_law.ensures.steps c.same_traces.ensures c.one_trace.ensures c.one_text.ensures c.one_text-2.ensures c.one_schedule_text.ensures c.one_trees_text.ensures c.read_theories_are_theories.ensures c.read_goals_are_good.ensures c.read_trees_are_good.ensures c.theory_laws.ensures.theories.0
