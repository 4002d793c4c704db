-- The laws of rules, rewrites and instances, one term for each.
use Rattle.mp_schema.specs.Faultless.{RulesAreFaultless, RewritesAreFaultless, FitsByOccurrences, PremisesFit, ConditionsFit}
use Rattle.mp_schema.specs.Solutions.{OneInstance}
use Rattle.mp_schema.proofs.Conditional.{IsFaultlessRewrite-from, KeepsRewrite-from, conditions_fit}
use Rattle.mp_schema.proofs.Faultless.{IsFaultlessRule-from, KeepsRule-from, premises_fit}
use Rattle.mp_schema.proofs.Fitting.{schema_fits-told}
use Rattle.mp_schema.proofs.OneGoal.{one_instance}

pub rules_are_faultless : RulesAreFaultless
rules_are_faultless premises concl e = IsFaultlessRule-from premises concl (KeepsRule-from premises concl e)

pub rewrites_are_faultless : RewritesAreFaultless
rewrites_are_faultless conds redex contractum e = IsFaultlessRewrite-from conds redex contractum (KeepsRewrite-from conds redex contractum e)

pub fits_by_occurrences : FitsByOccurrences
fits_by_occurrences v s = schema_fits-told v s

pub premises_do_fit : PremisesFit
premises_do_fit v premises concl e fits needs = premises_fit premises concl (KeepsRule-from premises concl e) v fits needs

pub conditions_do_fit : ConditionsFit
conditions_do_fit w v conds redex contractum e fits = conditions_fit conds redex contractum (KeepsRewrite-from conds redex contractum e) w v fits

pub goals_have_one_instance : OneInstance
goals_have_one_instance s first goal v w conclusion said gives_v gives_w = one_instance s first goal v w conclusion said gives_v gives_w
