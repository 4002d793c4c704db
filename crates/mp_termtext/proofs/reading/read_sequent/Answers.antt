use Rattle.std.proofs.Common.{rules, None, Some, sym, ◌∙◌}
use Rattle.mp_words.specs.Texts.{one_pass}
use Rattle.mp_termtext.specs.Grammar.{sequent}
use Rattle.mp_termtext.specs.Statics.{sequent_faults}
use Rattle.mp_termtext.specs.Values.{sequent_value}
use Rattle.mp_words.proofs.Answering.{broken_text, lexical_text, none_least, one_fault_of, stuck_text, text_is}
use Rattle.mp_termtext.proofs.reading.read_sequent.Goals as goal

pub returns-in_err-words-clause-reads : goal.returns-in_err-words-clause-reads
returns-in_err-words-clause-reads c = lexical_text sequent (one_pass sequent_faults) sequent_value c.args.names.now c.args.source.now c.lex_text.new.names c.in_err-words.field-0.0 _ (search rules) c.in_err-words.ensures.lexes c.lex_text.ensures.grown

pub returns-in-Err-clause-reads : goal.returns-in-Err-clause-reads
returns-in-Err-clause-reads c =
    stuck_text sequent (one_pass sequent_faults) sequent_value c.args.names.now c.args.source.now c.in_ok-words.words c.lex_text.new.names c.as_slice.result.now c.in-Err.fail c.stopped.result
    c.in_ok-words.ensures.lexes c.lex_text.ensures.grown c.as_slice.ensures c.in-Err.ensures c.stopped.ensures

pub returns-in-Some-clause-reads : goal.returns-in-Some-clause-reads
returns-in-Some-clause-reads c =
    broken_text sequent (one_pass sequent_faults) sequent_value c.args.names.now c.args.source.now c.in_ok-words.words c.lex_text.new.names c.as_slice.result.now c.in-Ok.raw c.in-Some.fault
    c.in_ok-words.ensures.lexes c.as_slice.ensures c.in-Ok.ensures (one_fault_of (sequent_faults c.in-Ok.raw) (Some c.in-Some.fault) (sym c.in-Some.is ∙ c.in_ok-fault.ensures))

pub build_sequent-requires : goal.build_sequent-requires
build_sequent-requires c = none_least (sequent_faults c.in-Ok.raw) (sym c.in_ok-fault.ensures ∙ c.in_default.is)

pub returns-clause-reads : goal.returns-clause-reads
returns-clause-reads c =
    text_is sequent (one_pass sequent_faults) sequent_value c.args.names.now c.args.source.now c.in_ok-words.words c.lex_text.new.names c.as_slice.result.now c.in-Ok.raw c.in_ok-sequent.sequent
    c.in_ok-words.ensures.lexes c.as_slice.ensures c.in-Ok.ensures (one_fault_of (sequent_faults c.in-Ok.raw) None (sym c.in_default.is ∙ c.in_ok-fault.ensures)) c.in_ok-sequent.ensures
