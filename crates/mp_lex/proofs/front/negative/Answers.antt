use Rattle.std.proofs.Common.{◌∷◌, ◌+◌, ap, sym, ◌∙◌, take, false}
use Rattle.std.specs.List.{list_all}
use Rattle.mp_lex.specs.declared.token.Kind.TheVariants.{Num}
use Rattle.mp_lex.specs.declared.token.LexWhy.TheVariants.{BadNumber}
use Rattle.mp_lex.specs.Bytes.{is_digit}
use Rattle.mp_lex.specs.Lex.{checked}
use Rattle.mp_lex.proofs.Runs.{run_passes}
use Rattle.mp_lex.proofs.Fronts.{negative_checked}
use Rattle.mp_lex.proofs.front.negative.Goals as goal

pub fits-requires-clause-digits : goal.fits-requires-clause-digits
fits-requires-clause-digits c = ap (λ n. list_all is_digit (take n c.args.bytes.now)) c.digit_len-len.ensures.value ∙ run_passes is_digit c.args.bytes.now

pub returns-else-fits-clause-value : goal.returns-else-fits-clause-value
returns-else-fits-clause-value c =
    let bytes = c.args.bytes.now in
    c.bad.ensures ∙ negative_checked c.digit_len-len.result bytes false (sym c.fits.ensures ∙ c.if-fits.false)
    ∙ ap (λ n. checked Num BadNumber (1 + n) (45 ∷ bytes)) c.digit_len-len.ensures.value
