use Rattle.std.proofs.Common.{ap, ◌∙◌, take}
use Rattle.std.specs.List.{list_all}
use Rattle.mp_lex.specs.Bytes.{is_digit}
use Rattle.mp_lex.proofs.Runs.{run_passes}
use Rattle.mp_lex.proofs.front.number.Goals as goal

pub fits-requires-clause-digits : goal.fits-requires-clause-digits
fits-requires-clause-digits c = ap (λ n. list_all is_digit (take n c.args.bytes.now)) c.digit_len-len.ensures.value ∙ run_passes is_digit c.args.bytes.now
