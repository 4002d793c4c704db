use Rattle.std.proofs.Common.{rules, ◌-◌, ◌^◌, None, Some, length, ap, sym, ◌∙◌, arith}
use Rattle.mp_treetext.proofs.Faultless.{file_keeps}
use Rattle.mp_treetext.proofs.FewFacts.{few_within}
use Rattle.mp_treetext.proofs.Passes.{broken_file, difference_found, differing_file, file_is, lexical_file, none_found, some_found, stuck_file}
use Rattle.mp_treetext.proofs.ReadFiles.{file_good, file_many}
use Rattle.mp_treetext.proofs.reading.read_trees.Goals as goal

pub returns-in_err-words-clause-reads : goal.returns-in_err-words-clause-reads
returns-in_err-words-clause-reads c =
    lexical_file c.args.theory.now c.args.goals.now c.args.names.now c.args.source.now c.lex_text.new.names c.in_err-words.field-0.0 _ (search rules) c.in_err-words.ensures.lexes c.lex_text.ensures.grown

pub returns-in-Err-clause-reads : goal.returns-in-Err-clause-reads
returns-in-Err-clause-reads c =
    stuck_file c.args.theory.now c.args.goals.now c.args.names.now c.args.source.now c.in_ok-words.words c.lex_text.new.names c.as_slice.result.now c.in_ok-words.ensures.lexes c.as_slice.ensures
    c.in-Err.fail c.stopped.result c.lex_text.ensures.grown c.in-Err.ensures.reads c.stopped.ensures

pub returns-in-Some-clause-reads : goal.returns-in-Some-clause-reads
returns-in-Some-clause-reads c =
    let t = c.args.theory.now in
    let found = some_found t c.args.goals.now c.as_slice-2.result.now c.args.source.now c.in-Ok.raws c.as_slice-3.result.now c.as_slice-2.ensures c.as_slice-3.ensures _ c.in-Some.fault c.in_ok-fault.ensures c.in-Some.is in
    broken_file t c.args.goals.now c.args.names.now c.args.source.now c.in_ok-words.words c.lex_text.new.names c.as_slice.result.now c.in_ok-words.ensures.lexes c.as_slice.ensures c.in-Ok.raws c.in-Ok.ensures.reads
    c.in-Some.fault found

pub build_file-requires-clause-faultless : goal.build_file-requires-clause-faultless
build_file-requires-clause-faultless c =
    let none = none_found c.args.theory.now c.args.goals.now c.as_slice-2.result.now c.args.source.now c.in-Ok.raws c.as_slice-3.result.now c.as_slice-2.ensures c.as_slice-3.ensures _ c.in_ok-fault.ensures c.in_default.is in
    (file_keeps c.args.theory.now c.args.goals.now c.args.source.now c.in-Ok.raws none).blocks

pub build_file-requires-clause-few : goal.build_file-requires-clause-few
build_file-requires-clause-few c =
    let same = ap length c.as_slice.ensures in
    let few = c.in_ok-words.ensures.few in
    let room = c.requires.room in
    few_within (length c.as_slice.result.now) (2 ^ 32 - 1) c.in-Ok.raws (omega (arith, same, few, room)) c.in-Ok.ensures.few

pub file_difference-requires : goal.file_difference-requires
file_difference-requires c =
    let none = none_found c.args.theory.now c.args.goals.now c.as_slice-2.result.now c.args.source.now c.in-Ok.raws c.as_slice-3.result.now c.as_slice-2.ensures c.as_slice-3.ensures _ c.in_ok-fault.ensures c.in_default.is in
    ap length c.as_slice-5.ensures ∙ file_many c.args.theory.now c.args.goals.now c.args.source.now c.in-Ok.raws c.in_ok-blocks.blocks none c.in_ok-blocks.ensures ∙ sym (ap length c.as_slice-4.ensures)

pub returns-in-Some-2-clause-reads : goal.returns-in-Some-2-clause-reads
returns-in-Some-2-clause-reads c =
    let t = c.args.theory.now in
    let none = none_found t c.args.goals.now c.as_slice-2.result.now c.args.source.now c.in-Ok.raws c.as_slice-3.result.now c.as_slice-2.ensures c.as_slice-3.ensures _ c.in_ok-fault.ensures c.in_default.is in
    let differs = difference_found t c.args.goals.now c.as_slice-4.result.now c.args.source.now c.lex_text.new.names c.in_ok-blocks.blocks c.as_slice-5.result.now c.in-Ok.raws c.as_slice-4.ensures c.as_slice-5.ensures c.in_ok-blocks.ensures _ (Some c.in-Some-2.at) c.in_ok-at.ensures c.in-Some-2.is in
    differing_file t c.args.goals.now c.args.names.now c.args.source.now c.in_ok-words.words c.lex_text.new.names c.as_slice.result.now c.in_ok-words.ensures.lexes c.as_slice.ensures c.in-Ok.raws c.in-Ok.ensures.reads
    c.in-Some-2.at none differs

pub returns-clause-reads : goal.returns-clause-reads
returns-clause-reads c =
    let t = c.args.theory.now in
    let none = none_found t c.args.goals.now c.as_slice-2.result.now c.args.source.now c.in-Ok.raws c.as_slice-3.result.now c.as_slice-2.ensures c.as_slice-3.ensures _ c.in_ok-fault.ensures c.in_default.is in
    let same = difference_found t c.args.goals.now c.as_slice-4.result.now c.args.source.now c.lex_text.new.names c.in_ok-blocks.blocks c.as_slice-5.result.now c.in-Ok.raws c.as_slice-4.ensures c.as_slice-5.ensures c.in_ok-blocks.ensures _ None c.in_ok-at.ensures c.in-None.is in
    file_is t c.args.goals.now c.args.names.now c.args.source.now c.in_ok-words.words c.lex_text.new.names c.as_slice.result.now c.in_ok-words.ensures.lexes c.as_slice.ensures c.in-Ok.raws c.in-Ok.ensures.reads
    c.in_ok-blocks.blocks none same c.in_ok-blocks.ensures

pub returns-clause-good : goal.returns-clause-good
returns-clause-good c =
    let none = none_found c.args.theory.now c.args.goals.now c.as_slice-2.result.now c.args.source.now c.in-Ok.raws c.as_slice-3.result.now c.as_slice-2.ensures c.as_slice-3.ensures _ c.in_ok-fault.ensures c.in_default.is in
    file_good c.args.theory.now c.args.goals.now c.args.source.now c.in-Ok.raws c.in_ok-blocks.blocks none c.in_ok-blocks.ensures c.len-count.ensures.theory

pub returns-clause-each : goal.returns-clause-each
returns-clause-each c =
    let none = none_found c.args.theory.now c.args.goals.now c.as_slice-2.result.now c.args.source.now c.in-Ok.raws c.as_slice-3.result.now c.as_slice-2.ensures c.as_slice-3.ensures _ c.in_ok-fault.ensures c.in_default.is in
    file_many c.args.theory.now c.args.goals.now c.args.source.now c.in-Ok.raws c.in_ok-blocks.blocks none c.in_ok-blocks.ensures
