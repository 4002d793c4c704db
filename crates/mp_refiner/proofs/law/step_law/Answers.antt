use Rattle.mp_rewrite.proofs.Laws.{one_rewriting}
use Rattle.mp_refiner.proofs.Laws.{step_law, unallowed_law, one_list_of_subgoals, some_step_function, one_step_function, step_functions_are_logics}
use Rattle.mp_refiner.proofs.law.step_law.Goals as goal

pub returns-clause-steps : goal.returns-clause-steps
returns-clause-steps c = step_law

pub returns-clause-unallowed : goal.returns-clause-unallowed
returns-clause-unallowed c = unallowed_law

pub returns-clause-one : goal.returns-clause-one
returns-clause-one c = one_list_of_subgoals

pub returns-clause-one_rewriting : goal.returns-clause-one_rewriting
returns-clause-one_rewriting c = one_rewriting

pub returns-clause-some_function : goal.returns-clause-some_function
returns-clause-some_function c = some_step_function

pub returns-clause-one_function : goal.returns-clause-one_function
returns-clause-one_function c = one_step_function

pub returns-clause-logics : goal.returns-clause-logics
returns-clause-logics c = step_functions_are_logics
