use Rattle.std.proofs.Common.{refl}
use Rattle.mp_words.specs.declared.word.Mark.TheVariants as mark
use Rattle.mp_words.specs.Fronts.{a_name, is_mark, name_at}
use Rattle.mp_words.specs.Grammars.{token}
use Rattle.mp_words.proofs.Grammars.{row_unfolds, token_shrinks}
use Rattle.mp_termtext.specs.Grammar.{bound, hyp, param_at, term}
use Rattle.mp_termtext.proofs.TermUnfolds.{bound_shrinks, hyp_shrinks, term_shrinks, term_unfolds}
use Rattle.mp_termtext.proofs.laws.grammar_cases.Goals as goal

pub returns-clause-term : goal.returns-clause-term
returns-clause-term c = term_unfolds

pub returns-clause-params : goal.returns-clause-params
returns-clause-params c = ((λ ts. refl), row_unfolds (is_mark mark.Semicolon) (is_mark mark.CloseBracket) (token param_at) (token_shrinks param_at))

pub returns-clause-subs : goal.returns-clause-subs
returns-clause-subs c = ((λ ts. refl), row_unfolds (is_mark mark.Semicolon) (is_mark mark.CloseBrace) bound (bound_shrinks term term_shrinks))

pub returns-clause-bound : goal.returns-clause-bound
returns-clause-bound c = ((λ ts. refl), (λ ts. refl), row_unfolds (is_mark mark.Comma) (is_mark mark.Dot) a_name (token_shrinks name_at))

pub returns-clause-sequent : goal.returns-clause-sequent
returns-clause-sequent c = ((λ ts. refl), (λ ts. refl), row_unfolds (is_mark mark.Semicolon) (is_mark mark.Turnstile) hyp hyp_shrinks)
