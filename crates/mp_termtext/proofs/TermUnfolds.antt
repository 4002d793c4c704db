-- A term is its step over terms.
use Rattle.std.proofs.Common.{◌≡◌, ℕ, suc, List, []}
use Rattle.mp_words.specs.declared.word.Word.{Word}
use Rattle.mp_words.specs.declared.word.Mark.TheVariants as mark
use Rattle.mp_words.specs.declared.raw.RawName.{RawName}
use Rattle.mp_words.specs.Fronts.{a_name, is_mark, name_at}
use Rattle.mp_words.specs.Grammars.{Agree, Grammar, Keeps, Local, Shrinks, both, nothing, row, token}
use Rattle.mp_words.proofs.Grammars.{agree_same, both_agree, both_later, both_shrinks, both_keeps, both_shrinks_last, choose_keeps, keeps, made_agree, made_shrinks, nothing_keeps, optional_agree, optional_keeps, or_word_agree, or_word_shrinks, row_agree, row_shrinks, takes, token_shrinks, unfolds, after_shrinks}
use Rattle.mp_termtext.specs.declared.raw.RawTerm.{RawTerm}
use Rattle.mp_termtext.specs.Grammar.{begins_binders, binders, bound_by, bound_of, bounds_by, hyp, hyp_of, operator_by, operator_of, param_at, params, some_binders, subs_by, term, term_by, variable_at}

params_keep : Keeps params
params_keep =
    let some = row (token param_at) (is_mark mark.Semicolon) (is_mark mark.CloseBracket) in
    optional_keeps (is_mark mark.OpenBracket) [] some (keeps some (row_shrinks (is_mark mark.Semicolon) (is_mark mark.CloseBracket) (token param_at) (token_shrinks param_at)))

pub binders_keep : Keeps binders
binders_keep = choose_keeps begins_binders some_binders (nothing []) (keeps some_binders (row_shrinks (is_mark mark.Comma) (is_mark mark.Dot) a_name (token_shrinks name_at))) (nothing_keeps {W = Word} {X = List RawName} [])

pub bound_shrinks : (g : Grammar Word RawTerm) → Shrinks g → Shrinks (bound_by g)
bound_shrinks g a = made_shrinks bound_of (both binders g) (both_shrinks_last binders g binders_keep a)

subs_keep : (g : Grammar Word RawTerm) → Shrinks g → Keeps (subs_by g)
subs_keep g a = optional_keeps (is_mark mark.OpenBrace) [] (bounds_by g) (keeps (bounds_by g) (row_shrinks (is_mark mark.Semicolon) (is_mark mark.CloseBrace) (bound_by g) (bound_shrinks g a)))

step_shrinks : (g : Grammar Word RawTerm) → Shrinks g → Shrinks (term_by g)
step_shrinks g a =
    or_word_shrinks variable_at (operator_by g)
    (made_shrinks operator_of (both a_name (both params (subs_by g))) (both_shrinks a_name (both params (subs_by g)) (token_shrinks name_at) (both_keeps params (subs_by g) params_keep (subs_keep g a))))

module _ (n : ℕ) (g h : Grammar Word RawTerm) (s : Shrinks g) (a : Agree n g h) where
  bound_agree : Agree n (bound_by g) (bound_by h)
  bound_agree = made_agree n bound_of (both binders g) (both binders h) (both_agree n binders binders g h (agree_same n binders) binders_keep a)

  subs_agree : Agree n (subs_by g) (subs_by h)
  subs_agree = optional_agree n (is_mark mark.OpenBrace) [] (bounds_by g) (bounds_by h) (row_agree (is_mark mark.Semicolon) (is_mark mark.CloseBrace) n (bound_by g) (bound_by h) (keeps (bound_by g) (bound_shrinks g s)) bound_agree)

  step_agree : Agree (suc n) (term_by g) (term_by h)
  step_agree =
      or_word_agree (suc n) variable_at (operator_by g) (operator_by h)
      (made_agree (suc n) operator_of (both a_name (both params (subs_by g))) (both a_name (both params (subs_by h)))
      (both_later n a_name a_name (both params (subs_by g)) (both params (subs_by h)) (agree_same (suc n) a_name) (token_shrinks name_at)
      (both_agree n params params (subs_by g) (subs_by h) (agree_same n params) params_keep subs_agree)))

abbrev term_local : Local term_by
term_local = record { shrinks = step_shrinks; agrees = step_agree }

pub term_unfolds : (ts : List Word) → term ts ≡ term_by term ts
unfolding term
term_unfolds ts = unfolds term_by term_local ts

pub term_shrinks : Shrinks term
unfolding term
term_shrinks = takes term_by term_local

pub hyp_shrinks : Shrinks hyp
hyp_shrinks = made_shrinks hyp_of _ (both_shrinks a_name _ (token_shrinks name_at) (keeps _ (after_shrinks (is_mark mark.Colon) term (keeps term term_shrinks))))
