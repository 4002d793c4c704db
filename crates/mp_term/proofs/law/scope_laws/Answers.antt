use Rattle.mp_term.proofs.Laws.{goals_are_narrow, scope_after_substitution, scope_after_weakening, width_after_substitution, width_after_weakening, width_of_few_binders}
use Rattle.mp_term.proofs.law.scope_laws.Goals as goal

pub returns-clause-weakened : goal.returns-clause-weakened
returns-clause-weakened c = scope_after_weakening

pub returns-clause-substituted : goal.returns-clause-substituted
returns-clause-substituted c = scope_after_substitution

pub returns-clause-weakened_width : goal.returns-clause-weakened_width
returns-clause-weakened_width c = width_after_weakening

pub returns-clause-substituted_width : goal.returns-clause-substituted_width
returns-clause-substituted_width c = width_after_substitution

pub returns-clause-width : goal.returns-clause-width
returns-clause-width c = width_of_few_binders

pub returns-clause-goals : goal.returns-clause-goals
returns-clause-goals c = goals_are_narrow
