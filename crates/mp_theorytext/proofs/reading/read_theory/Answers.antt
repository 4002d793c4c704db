use Rattle.std.proofs.Common.{rules, sym, ◌∙◌}
use Rattle.mp_words.specs.Texts.{one_pass}
use Rattle.mp_words.proofs.Answering.{broken_text, lexical_text, none_least, one_fault_of, stuck_text, text_is}
use Rattle.mp_theorytext.specs.Grammar.{theory}
use Rattle.mp_theorytext.specs.Statics.{theory_faults}
use Rattle.mp_theorytext.specs.Values.{with_laws}
use Rattle.mp_theorytext.proofs.reading.read_theory.Goals as goal

pub returns-in_err-words-clause-reads : goal.returns-in_err-words-clause-reads
returns-in_err-words-clause-reads c =
    let t = c.args.theory in
    lexical_text theory (one_pass (theory_faults t)) (with_laws t) c.args.names.now c.args.source.now c.lex_text.new.names c.in_err-words.field-0.0 _ (search rules) c.in_err-words.ensures.lexes c.lex_text.ensures.grown

pub returns-in-Err-clause-reads : goal.returns-in-Err-clause-reads
returns-in-Err-clause-reads c =
    let t = c.args.theory in
    stuck_text theory (one_pass (theory_faults t)) (with_laws t) c.args.names.now c.args.source.now c.in_ok-words.words c.lex_text.new.names c.as_slice.result.now c.in-Err.fail c.stopped.result c.in_ok-words.ensures.lexes c.lex_text.ensures.grown c.as_slice.ensures
    c.in-Err.ensures.reads c.stopped.ensures

pub returns-in-Some-clause-reads : goal.returns-in-Some-clause-reads
returns-in-Some-clause-reads c =
    let t = c.args.theory in
    let fs = theory_faults t c.in-Ok.raws in
    broken_text theory (one_pass (theory_faults t)) (with_laws t) c.args.names.now c.args.source.now c.in_ok-words.words c.lex_text.new.names c.as_slice.result.now c.in-Ok.raws c.in-Some.fault c.in_ok-words.ensures.lexes c.as_slice.ensures
    c.in-Ok.ensures.reads (one_fault_of fs _ (sym c.in-Some.is ∙ c.in_ok-fault.ensures))

pub build_theory-requires-clause-faultless : goal.build_theory-requires-clause-faultless
build_theory-requires-clause-faultless c = none_least (theory_faults c.args.theory c.in-Ok.raws) (sym c.in_ok-fault.ensures ∙ c.in_default.is)

pub returns-clause-reads : goal.returns-clause-reads
returns-clause-reads c =
    let t = c.args.theory in
    let fs = theory_faults t c.in-Ok.raws in
    text_is theory (one_pass (theory_faults t)) (with_laws t) c.args.names.now c.args.source.now c.in_ok-words.words c.lex_text.new.names c.as_slice.result.now c.in-Ok.raws c.in_ok-theory.theory c.in_ok-words.ensures.lexes c.as_slice.ensures c.in-Ok.ensures.reads
    (one_fault_of fs _ (sym c.in_default.is ∙ c.in_ok-fault.ensures)) c.in_ok-theory.ensures
