use Rattle.mp_term.proofs.Laws.{binders_after_substitution, binders_after_weakening, depth_after_substitution, size_after_substitution, size_after_weakening}
use Rattle.mp_term.proofs.law.size_laws.Goals as goal

pub returns-clause-weakened : goal.returns-clause-weakened
returns-clause-weakened c = size_after_weakening

pub returns-clause-substituted : goal.returns-clause-substituted
returns-clause-substituted c = size_after_substitution

pub returns-clause-substituted_depth : goal.returns-clause-substituted_depth
returns-clause-substituted_depth c = depth_after_substitution

pub returns-clause-weakened_binders : goal.returns-clause-weakened_binders
returns-clause-weakened_binders c = binders_after_weakening

pub returns-clause-substituted_binders : goal.returns-clause-substituted_binders
returns-clause-substituted_binders c = binders_after_substitution
