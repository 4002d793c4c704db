use Rattle.mp_build.proofs.Laws.{sequent_is_in_scope, term_is_in_scope, sequent_has_few_binders, term_has_few_binders, tame_entries, schema_is_narrow, pattern_is_narrow, plain_instance, plain_fits}
use Rattle.mp_build.proofs.law.build_laws.Goals as goal

pub returns-clause-sequent_scope : goal.returns-clause-sequent_scope
returns-clause-sequent_scope c = sequent_is_in_scope

pub returns-clause-term_scope : goal.returns-clause-term_scope
returns-clause-term_scope c = term_is_in_scope

pub returns-clause-sequent_binders : goal.returns-clause-sequent_binders
returns-clause-sequent_binders c = sequent_has_few_binders

pub returns-clause-term_binders : goal.returns-clause-term_binders
returns-clause-term_binders c = term_has_few_binders

pub returns-clause-entries : goal.returns-clause-entries
returns-clause-entries c = tame_entries

pub returns-clause-schema_room : goal.returns-clause-schema_room
returns-clause-schema_room c = schema_is_narrow

pub returns-clause-pattern_room : goal.returns-clause-pattern_room
returns-clause-pattern_room c = pattern_is_narrow

pub returns-clause-plain : goal.returns-clause-plain
returns-clause-plain c = plain_instance

pub returns-clause-plain_fits : goal.returns-clause-plain_fits
returns-clause-plain_fits c = plain_fits
