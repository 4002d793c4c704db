use Rattle.std.proofs.Common.{rules, refl, sym, subst, ◌∙◌}
use Rattle.mp_words.specs.Grammars.{whole}
use Rattle.mp_words.specs.Texts.{one_pass}
use Rattle.mp_words.proofs.Answering.{broken_text, lexical_text, none_least, one_fault_of, stuck_text, text_is}
use Rattle.mp_scripttext.specs.declared.script.Script.{Script}
use Rattle.mp_scripttext.specs.Entries.{EachGood}
use Rattle.mp_scripttext.specs.Goals.{with_goals}
use Rattle.mp_scripttext.specs.Grammar.{script}
use Rattle.mp_scripttext.specs.Statics.{script_faults}
use Rattle.mp_scripttext.specs.Values.{script_of}
use Rattle.mp_scripttext.proofs.GoalsKept.{kept_of, script_kept}
use Rattle.mp_scripttext.proofs.GoodEntries.{entries_faultless, entries_good}
use Rattle.mp_scripttext.proofs.WholeMade.{made_fails}
use Rattle.mp_scripttext.proofs.reading.read_script.Goals as goal

pub returns-in_err-words-clause-reads : goal.returns-in_err-words-clause-reads
returns-in_err-words-clause-reads c =
    let t = c.args.theory.now in
    lexical_text script (one_pass (script_faults t)) (script_of t) c.args.names.now c.args.source.now c.lex_text.new.names c.in_err-words.field-0.0 _ (search rules) c.in_err-words.ensures.lexes c.lex_text.ensures.grown

pub returns-in-Err-clause-reads : goal.returns-in-Err-clause-reads
returns-in-Err-clause-reads c =
    let t = c.args.theory.now in
    let ws = c.as_slice.result.now in
    stuck_text script (one_pass (script_faults t)) (script_of t) c.args.names.now c.args.source.now c.in_ok-words.words c.lex_text.new.names ws c.in-Err.fail c.stopped.result c.in_ok-words.ensures.lexes c.lex_text.ensures.grown c.as_slice.ensures
    (made_fails (with_goals t c.new-goals.result) (whole script) ws c.in-Err.fail c.in-Err.ensures) c.stopped.ensures

pub returns-in-Some-clause-reads : goal.returns-in-Some-clause-reads
returns-in-Some-clause-reads c =
    let t = c.args.theory.now in
    let ws = c.as_slice.result.now in
    let kept = kept_of t ws c.new-goals.result c.read_goals.new.goals c.new-goals.ensures c.in_default.ensures in
    broken_text script (one_pass (script_faults t)) (script_of t) c.args.names.now c.args.source.now c.in_ok-words.words c.lex_text.new.names ws kept.raws c.in-Some.fault c.in_ok-words.ensures.lexes c.as_slice.ensures kept.written
    (one_fault_of (script_faults t kept.raws) _ (sym c.in-Some.is ∙ c.in_ok-fault.ensures ∙ kept.fault))

pub returns-clause-reads : goal.returns-clause-reads
returns-clause-reads c =
    let t = c.args.theory.now in
    let ws = c.as_slice.result.now in
    let kept = kept_of t ws c.new-goals.result c.read_goals.new.goals c.new-goals.ensures c.in_default.ensures in
    let found = sym c.in_default-2.is ∙ c.in_ok-fault.ensures ∙ kept.fault in
    let es = c.read_goals.new.goals.entries in
    let value : Script = record { entries = es } in
    text_is script (one_pass (script_faults t)) (script_of t) c.args.names.now c.args.source.now c.in_ok-words.words c.lex_text.new.names ws kept.raws value c.in_ok-words.ensures.lexes c.as_slice.ensures kept.written
    (one_fault_of (script_faults t kept.raws) _ found) (script_kept t kept.raws es value refl (kept.all (none_least (script_faults t kept.raws) (sym found))))

pub returns-clause-good : goal.returns-clause-good
returns-clause-good c =
    let t = c.args.theory.now in
    let kept = kept_of t c.as_slice.result.now c.new-goals.result c.read_goals.new.goals c.new-goals.ensures c.in_default.ensures in
    let none = none_least (script_faults t kept.raws) (sym (sym c.in_default-2.is ∙ c.in_ok-fault.ensures ∙ kept.fault)) in
    subst (EachGood t) (sym (kept.all none)) (entries_good t c.len-count.ensures.theory kept.raws (entries_faultless t kept.raws none))
