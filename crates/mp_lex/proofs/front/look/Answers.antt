use Rattle.std.proofs.Common.{◌+◌, ap, sym, ◌∙◌}
use Rattle.mp_lex.specs.declared.token.Kind.TheVariants.{Small, Cap}
use Rattle.mp_lex.specs.Lex.{front_of}
use Rattle.mp_lex.proofs.Fronts.{named, small_front, cap_front}
use Rattle.mp_lex.proofs.front.look.Goals as goal

pub returns-then-small-clause-value : goal.returns-then-small-clause-value
returns-then-small-clause-value c =
    c.name.ensures ∙ ap (λ n. named Small 0 (1 + n)) c.word_len.ensures.value
    ∙ small_front c.in-Some.first.now c.in-Some.rest.now (sym c.small.ensures ∙ c.if-small.true)
    ∙ ap front_of (sym c.in-Some.ensures.cases.0)

pub returns-then-cap-clause-value : goal.returns-then-cap-clause-value
returns-then-cap-clause-value c =
    c.name-then-cap.ensures ∙ ap (λ n. named Cap 0 (1 + n)) c.word_len-then-cap.ensures.value
    ∙ cap_front c.in-Some.first.now c.in-Some.rest.now (sym c.small.ensures ∙ c.if-small.false) (sym c.cap.ensures ∙ c.if-cap.true)
    ∙ ap front_of (sym c.in-Some.ensures.cases.0)
