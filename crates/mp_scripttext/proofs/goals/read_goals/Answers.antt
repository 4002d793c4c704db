use Rattle.std.proofs.Common.{◌++◌, ◌∷◌, [], refl, ap, sym, ◌∙◌}
use Rattle.mp_words.specs.Grammars.{some_words}
use Rattle.mp_words.proofs.Loops.{more_words}
use Rattle.mp_words.proofs.Steps.{repeated_more, repeated_start}
use Rattle.mp_scripttext.specs.Goals.{with_goal}
use Rattle.mp_scripttext.specs.Grammar.{entry}
use Rattle.mp_scripttext.proofs.GoalsKept.{with_next}
use Rattle.mp_scripttext.proofs.goals.read_goals.Goals as goal

pub loop-at-init : goal.loop-at-init
loop-at-init c = ([], repeated_start some_words entry [] c.args.words.now refl, refl)

pub loop-at-preserved : goal.loop-at-preserved
loop-at-preserved c =
    let t = c.args.theory.now in
    let l = c.loop-at in
    let raws = l.invariant.0 in
    let raw = c.in-Ok.read.0 in
    let us = c.in-Ok.read.1.now in (
      raws ++ raw ∷ [],
      repeated_more some_words entry raws l.at.now c.args.words.now (raws ++ raw ∷ []) raw us l.invariant.1 refl (more_words l.at.now c.loop-at-test.ensures) c.in-Ok.ensures.reads c.in-Ok.ensures.shorter,
      c.in-Ok-add_goal.ensures ∙ ap (λ g. with_goal t g raw) l.invariant.2 ∙ sym (with_next t c.args.goals.now raws raw),
    )
