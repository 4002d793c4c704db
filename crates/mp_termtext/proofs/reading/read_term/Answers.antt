use Rattle.std.proofs.Common.{rules, None, Some, sym, ◌∙◌}
use Rattle.mp_words.specs.Texts.{one_pass}
use Rattle.mp_termtext.specs.Grammar.{term}
use Rattle.mp_termtext.specs.Statics.{term_faults}
use Rattle.mp_termtext.specs.Values.{term_value}
use Rattle.mp_words.proofs.Answering.{broken_text, lexical_text, none_least, one_fault_of, stuck_text, text_is}
use Rattle.mp_termtext.proofs.reading.read_term.Goals as goal

pub returns-in_err-words-clause-reads : goal.returns-in_err-words-clause-reads
returns-in_err-words-clause-reads c = lexical_text term (one_pass (term_faults c.args.scope)) (term_value c.args.scope) c.args.names.now c.args.source.now c.lex_text.new.names c.in_err-words.field-0.0 _ (search rules) c.in_err-words.ensures.lexes c.lex_text.ensures.grown

pub returns-in-Err-clause-reads : goal.returns-in-Err-clause-reads
returns-in-Err-clause-reads c =
    stuck_text term (one_pass (term_faults c.args.scope)) (term_value c.args.scope) c.args.names.now c.args.source.now c.in_ok-words.words c.lex_text.new.names c.as_slice.result.now c.in-Err.fail c.stopped.result
    c.in_ok-words.ensures.lexes c.lex_text.ensures.grown c.as_slice.ensures c.in-Err.ensures c.stopped.ensures

pub returns-in-Some-clause-reads : goal.returns-in-Some-clause-reads
returns-in-Some-clause-reads c =
    broken_text term (one_pass (term_faults c.args.scope)) (term_value c.args.scope) c.args.names.now c.args.source.now c.in_ok-words.words c.lex_text.new.names c.as_slice.result.now c.in-Ok.raw c.in-Some.fault
    c.in_ok-words.ensures.lexes c.as_slice.ensures c.in-Ok.ensures (one_fault_of (term_faults c.args.scope c.in-Ok.raw) (Some c.in-Some.fault) (sym c.in-Some.is ∙ c.in_ok-fault.ensures))

pub build_whole_term-requires-clause-faultless : goal.build_whole_term-requires-clause-faultless
build_whole_term-requires-clause-faultless c = none_least (term_faults c.args.scope c.in-Ok.raw) (sym c.in_ok-fault.ensures ∙ c.in_default.is)

pub returns-clause-reads : goal.returns-clause-reads
returns-clause-reads c =
    text_is term (one_pass (term_faults c.args.scope)) (term_value c.args.scope) c.args.names.now c.args.source.now c.in_ok-words.words c.lex_text.new.names c.as_slice.result.now c.in-Ok.raw c.in_ok-term.term
    c.in_ok-words.ensures.lexes c.as_slice.ensures c.in-Ok.ensures (one_fault_of (term_faults c.args.scope c.in-Ok.raw) None (sym c.in_default.is ∙ c.in_ok-fault.ensures)) c.in_ok-term.ensures
