use Rattle.mp_schema.proofs.Laws.{fits_by_occurrences, premises_do_fit, conditions_do_fit}
use Rattle.mp_schema.proofs.law.fitting_laws.Goals as goal

pub returns-clause-occurrences : goal.returns-clause-occurrences
returns-clause-occurrences c = fits_by_occurrences

pub returns-clause-premises : goal.returns-clause-premises
returns-clause-premises c = premises_do_fit

pub returns-clause-conditions : goal.returns-clause-conditions
returns-clause-conditions c = conditions_do_fit
