use Rattle.std.proofs.Common.{rules, sym, subst, ◌∙◌}
use Rattle.mp_words.specs.Texts.{one_pass}
use Rattle.mp_words.proofs.Answering.{broken_text, lexical_text, none_least, one_fault_of, stuck_text, text_is}
use Rattle.mp_drill.specs.ScheduleGrammar.{schedule}
use Rattle.mp_drill.specs.ScheduleStatics.{schedule_faults}
use Rattle.mp_drill.specs.ScheduleValues.{schedule_of, EachInRange}
use Rattle.mp_drill.proofs.ScheduleInRange.{no_event_fault, sections_in_range}
use Rattle.mp_drill.proofs.reading.read_schedule.Goals as goal

pub returns-in_err-words-clause-reads : goal.returns-in_err-words-clause-reads
returns-in_err-words-clause-reads c =
    lexical_text schedule (one_pass (schedule_faults c.args.goals.now)) schedule_of c.args.names.now c.args.source.now c.lex_text.new.names c.in_err-words.field-0.0 _ (search rules) c.in_err-words.ensures.lexes c.lex_text.ensures.grown

pub returns-in-Err-clause-reads : goal.returns-in-Err-clause-reads
returns-in-Err-clause-reads c =
    stuck_text schedule (one_pass (schedule_faults c.args.goals.now)) schedule_of c.args.names.now c.args.source.now c.in_ok-words.words c.lex_text.new.names c.as_slice.result.now c.in-Err.fail c.stopped.result c.in_ok-words.ensures.lexes c.lex_text.ensures.grown c.as_slice.ensures c.in-Err.ensures
    c.stopped.ensures

pub returns-in-Some-clause-reads : goal.returns-in-Some-clause-reads
returns-in-Some-clause-reads c =
    broken_text schedule (one_pass (schedule_faults c.args.goals.now)) schedule_of c.args.names.now c.args.source.now c.in_ok-words.words c.lex_text.new.names c.as_slice.result.now c.in-Ok.raws c.in-Some.fault c.in_ok-words.ensures.lexes c.as_slice.ensures c.in-Ok.ensures
    (one_fault_of (schedule_faults c.args.goals.now c.in-Ok.raws) _ (sym c.in-Some.is ∙ c.in_ok-fault.ensures))

pub build_schedule-requires : goal.build_schedule-requires
build_schedule-requires c = no_event_fault c.args.goals.now c.in-Ok.raws (none_least (schedule_faults c.args.goals.now c.in-Ok.raws) (sym c.in_ok-fault.ensures ∙ c.in_default.is))

pub returns-clause-reads : goal.returns-clause-reads
returns-clause-reads c =
    text_is schedule (one_pass (schedule_faults c.args.goals.now)) schedule_of c.args.names.now c.args.source.now c.in_ok-words.words c.lex_text.new.names c.as_slice.result.now c.in-Ok.raws c.in_ok-sections.sections c.in_ok-words.ensures.lexes c.as_slice.ensures c.in-Ok.ensures
    (one_fault_of (schedule_faults c.args.goals.now c.in-Ok.raws) _ (sym c.in_default.is ∙ c.in_ok-fault.ensures)) c.in_ok-sections.ensures

pub returns-clause-range : goal.returns-clause-range
returns-clause-range c =
    subst EachInRange (sym c.in_ok-sections.ensures) (sections_in_range c.args.goals.now c.in-Ok.raws (none_least (schedule_faults c.args.goals.now c.in-Ok.raws) (sym c.in_ok-fault.ensures ∙ c.in_default.is)))
