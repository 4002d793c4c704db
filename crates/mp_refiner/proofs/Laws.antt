-- The laws of steps, one term for each.
use Rattle.mp_refiner.specs.Law.{StepLaw, UnallowedLaw, OneListOfSubgoals, SomeStepFunction, OneStepFunction, StepFunctionsAreLogics}
use Rattle.mp_refiner.proofs.Once.{one_list}
use Rattle.mp_refiner.proofs.Whole.{steps_by_instances, unallowed_steps, some_function, one_function, logics}

pub step_law : StepLaw
step_law t j goal outcome whole allowed good = steps_by_instances t j goal outcome whole allowed good

pub unallowed_law : UnallowedLaw
unallowed_law t j goal e = unallowed_steps t j goal e

pub one_list_of_subgoals : OneListOfSubgoals
one_list_of_subgoals rule first given goal kids others whole said many step other = one_list rule first given goal whole said many kids others step other

pub some_step_function : SomeStepFunction
some_step_function t whole = some_function t whole

pub one_step_function : OneStepFunction
one_step_function t step other whole is also = one_function t step other whole is also

pub step_functions_are_logics : StepFunctionsAreLogics
step_functions_are_logics t step whole is = logics t step whole is
