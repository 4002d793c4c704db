use Rattle.std.proofs.Common.{arith}
use Rattle.mp_words.specs.declared.word.Keyword.TheVariants as keyword
use Rattle.mp_words.specs.declared.word.Mark.TheVariants as mark
use Rattle.mp_words.specs.Fronts.{is_mark, is_word}
use Rattle.mp_words.proofs.Steps.{shorter_behind}
use Rattle.mp_scripttext.proofs.syntax.RawEntryReader.read.Goals as goal

pub returns-clause-shorter : goal.returns-clause-shorter
returns-clause-shorter c =
    let ts = c.args.words.now in
    let name = c.in_ok-name.ensures.shorter in
    let fuel = c.in_ok-fuel.ensures.within in
    let colon = shorter_behind (is_mark mark.Colon) c.in_ok-fuel.rest.now c.in-Some.rest.now ts c.in-Some.ensures.0 c.in-Some.ensures.1 (omega (arith, name, fuel)) in
    let sequent = c.in_ok-goal.ensures.shorter in
    let by = shorter_behind (is_word keyword.By) c.in_ok-goal.rest.now c.in-Some-keyword.rest.now ts c.in-Some-keyword.ensures.0 c.in-Some-keyword.ensures.1 (omega (arith, colon, sequent)) in
    let strategy = c.in_ok-strategy.ensures.shorter in
    omega (arith, by, strategy)
