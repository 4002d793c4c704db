use Rattle.std.proofs.Common.{◌∷◌, ◌+◌, ap, sym, ◌∙◌}
use Rattle.mp_lex.specs.declared.token.Kind.TheVariants.{SmallVar, CapVar}
use Rattle.mp_lex.specs.Lex.{variable_of}
use Rattle.mp_lex.proofs.Fronts.{named, small_variable, cap_variable}
use Rattle.mp_lex.proofs.front.variable.Goals as goal

pub returns-then-small-clause-value : goal.returns-then-small-clause-value
returns-then-small-clause-value c =
    let b = c.in-Some.first.now in
    c.name.ensures ∙ ap (λ n. named SmallVar 1 (1 + n)) c.word_len.ensures.value
    ∙ small_variable b c.in-Some.more.now (sym c.small.ensures ∙ c.if-small.true)
    ∙ ap (λ r. variable_of (39 ∷ r) r) (sym c.in-Some.ensures.cases.0)

pub returns-then-cap-clause-value : goal.returns-then-cap-clause-value
returns-then-cap-clause-value c =
    let b = c.in-Some.first.now in
    c.name-then-cap.ensures ∙ ap (λ n. named CapVar 1 (1 + n)) c.word_len-then-cap.ensures.value
    ∙ cap_variable b c.in-Some.more.now (sym c.small.ensures ∙ c.if-small.false) (sym c.cap.ensures ∙ c.if-cap.true)
    ∙ ap (λ r. variable_of (39 ∷ r) r) (sym c.in-Some.ensures.cases.0)
