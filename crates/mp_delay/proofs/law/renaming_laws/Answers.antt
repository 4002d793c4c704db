use Rattle.mp_delay.proofs.Laws.{moves_after_substitution, renamings_are_injective, renamings_are_undone, renamings_exist, variables_are_moves}
use Rattle.mp_delay.proofs.law.renaming_laws.Goals as goal

pub returns-clause-variables : goal.returns-clause-variables
returns-clause-variables c = variables_are_moves

pub returns-clause-undone : goal.returns-clause-undone
returns-clause-undone c = renamings_are_undone

pub returns-clause-exists : goal.returns-clause-exists
returns-clause-exists c = renamings_exist

pub returns-clause-injective : goal.returns-clause-injective
returns-clause-injective c = renamings_are_injective

pub returns-clause-after : goal.returns-clause-after
returns-clause-after c = moves_after_substitution
