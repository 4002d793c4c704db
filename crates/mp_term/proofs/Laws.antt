-- The laws of weakening and substitution, one term for each.
use Rattle.std.proofs.Common.{length, refl}
use Rattle.mp_term.specs.Laws.{WeakeningByNothing, WeakeningsCompose, SubstitutionAfterWeakening, WeakeningAfterSubstitution, SubstitutionLemma, SubstitutionOfVariables, WeakeningIsSubstitution, ScopeAfterWeakening, ScopeAfterSubstitution, WidthAfterWeakening, WidthAfterSubstitution, WidthOfFewBinders, SizeAfterWeakening, SizeAfterSubstitution, DepthAfterSubstitution, BindersAfterWeakening, BindersAfterSubstitution, GoalsAreNarrow}
use Rattle.mp_term.proofs.WeakLaws.{weak-none, weak-weak, weak-stacked}
use Rattle.mp_term.proofs.Composed.{sub-weak, weak-sub, sub-sub, sub-variables, weak-is_sub}
use Rattle.mp_term.proofs.ScopeLaws.{scope_weakened, scope_substituted, width_weakened, width_substituted}
use Rattle.mp_term.proofs.SizeLaws.{size-weak, depth-weak, size_substituted, depth_substituted}
use Rattle.mp_term.proofs.BinderLaws.{few-weak, few-sub, width_few}
use Rattle.mp_term.proofs.NarrowGoals.{narrow-goal}

pub weakening_by_nothing : WeakeningByNothing
weakening_by_nothing n t = weak-none n t

pub weakenings_compose : WeakeningsCompose
weakenings_compose n j k t = (weak-weak n j k t, weak-stacked n j k t)

pub substitution_after_weakening : SubstitutionAfterWeakening
substitution_after_weakening s extra m t scoped = sub-weak s extra m (length s) (length extra) t refl refl scoped

pub weakening_after_substitution : WeakeningAfterSubstitution
weakening_after_substitution s m k t scoped = weak-sub s m k t scoped

pub substitution_lemma : SubstitutionLemma
substitution_lemma s r p t all scoped = sub-sub s r (length r) p t refl all scoped

pub substitution_of_variables : SubstitutionOfVariables
substitution_of_variables t n scoped = sub-variables t n scoped

pub weakening_is_substitution : WeakeningIsSubstitution
weakening_is_substitution t n k scoped = weak-is_sub t n k scoped

pub scope_after_weakening : ScopeAfterWeakening
scope_after_weakening n k t scoped = scope_weakened n k t scoped

pub scope_after_substitution : ScopeAfterSubstitution
scope_after_substitution s m t all scoped = scope_substituted s m t all scoped

pub width_after_weakening : WidthAfterWeakening
width_after_weakening n k t = width_weakened n k t

pub width_after_substitution : WidthAfterSubstitution
width_after_substitution s m t scoped = width_substituted s m t scoped

pub width_of_few_binders : WidthOfFewBinders
width_of_few_binders t n few = width_few t n few

pub size_after_weakening : SizeAfterWeakening
size_after_weakening n k t = (size-weak n k t, depth-weak n k t)

pub size_after_substitution : SizeAfterSubstitution
size_after_substitution s m t = size_substituted s m t

pub depth_after_substitution : DepthAfterSubstitution
depth_after_substitution s m t = depth_substituted s m t

pub binders_after_weakening : BindersAfterWeakening
binders_after_weakening n k t = few-weak n k t

pub binders_after_substitution : BindersAfterSubstitution
binders_after_substitution s m t all few = few-sub s m all t few

pub goals_are_narrow : GoalsAreNarrow
goals_are_narrow s limits few = narrow-goal s limits few
