-- The laws of what is built, one term for each.
use Rattle.mp_build.specs.Laws.{SequentIsInScope, TermIsInScope, SequentHasFewBinders, TermHasFewBinders, TameEntries, SchemaIsNarrow, PatternIsNarrow, PlainInstance, PlainFits}
use Rattle.mp_build.proofs.BindersMade.{few-seq, few-term}
use Rattle.mp_build.proofs.NarrowLaws.{tame-entries, narrow-schema, narrow-term}
use Rattle.mp_build.proofs.Plain.{plain-inst, plain-fits}
use Rattle.mp_build.proofs.ScopesMade.{sequent-in, term-in}

pub sequent_is_in_scope : SequentIsInScope
sequent_is_in_scope v s rule placed fitting = sequent-in v s rule placed fitting

pub term_is_in_scope : TermIsInScope
term_is_in_scope v p closed plain fitting = term-in v p closed plain fitting

pub sequent_has_few_binders : SequentHasFewBinders
sequent_has_few_binders v s values few = few-seq v values s few

pub term_has_few_binders : TermHasFewBinders
term_has_few_binders v p values few = few-term v values p few

pub tame_entries : TameEntries
tame_entries i entries = tame-entries i entries

pub schema_is_narrow : SchemaIsNarrow
schema_is_narrow v s tame few shallow = narrow-schema v tame s few shallow

pub pattern_is_narrow : PatternIsNarrow
pattern_is_narrow v p tame few shallow = narrow-term v tame p few shallow

pub plain_instance : PlainInstance
plain_instance before other v p plain same env m = plain-inst v before other same p plain env m

pub plain_fits : PlainFits
plain_fits wide other v p plain same = plain-fits v wide other same p plain
