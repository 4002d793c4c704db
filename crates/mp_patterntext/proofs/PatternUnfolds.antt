-- A pattern is its step over patterns.
use Rattle.std.proofs.Common.{◌≡◌, ℕ, suc, List, []}
use Rattle.mp_words.specs.declared.word.Word.{Word}
use Rattle.mp_words.specs.Fronts.{a_capital_variable, a_name, capital_variable_at, is_mark, name_at}
use Rattle.mp_words.specs.Grammars.{Grammar, Keeps, Shrinks, Agree, both, choose, stands}
use Rattle.mp_words.proofs.Grammars.{agree_same, both_agree, both_keeps, both_later, both_shrinks, both_shrinks_last, choose_agree, choose_shrinks, keeps, made_agree, made_shrinks, optional_agree, optional_keeps, or_word_agree, or_word_shrinks, row_agree, row_shrinks, token_shrinks, unfolds}
use Rattle.mp_termtext.specs.Grammar.{binders}
use Rattle.mp_patterntext.specs.declared.raw.RawPattern.{RawPattern}
use Rattle.mp_patterntext.specs.Grammar.{args_by, arguments_by, pattern_bound_by, pattern_bounds_by, contexts, pattern_operator_by, param_pats, pattern, pattern_by, raw_bound, raw_meta, raw_operator, second_order_by, pattern_subs_by, pattern_variable_at}
use Rattle.mp_patterntext.proofs.PatternParts.{binders_keep, contexts_keep, param_pats_keep}
use Rattle.mp_words.specs.declared.word.Mark.TheVariants as mark

module _ (g : Grammar Word RawPattern) (a : Shrinks g) where
  bound_shrinks : Shrinks (pattern_bound_by g)
  bound_shrinks = made_shrinks raw_bound (both binders g) (both_shrinks_last binders g binders_keep a)

  arguments_keep : Keeps (arguments_by g)
  arguments_keep = optional_keeps (is_mark mark.OpenBracket) [] (args_by g) (keeps (args_by g) (row_shrinks (is_mark mark.Semicolon) (is_mark mark.CloseBracket) g a))

  subs_keep : Keeps (pattern_subs_by g)
  subs_keep = optional_keeps (is_mark mark.OpenBrace) [] (pattern_bounds_by g) (keeps (pattern_bounds_by g) (row_shrinks (is_mark mark.Semicolon) (is_mark mark.CloseBrace) (pattern_bound_by g) bound_shrinks))

  step_shrinks : Shrinks (pattern_by g)
  step_shrinks =
      or_word_shrinks pattern_variable_at (choose (stands capital_variable_at) (second_order_by g) (pattern_operator_by g))
      (choose_shrinks (stands capital_variable_at) (second_order_by g) (pattern_operator_by g)
      (made_shrinks raw_meta (both a_capital_variable (both contexts (arguments_by g))) (both_shrinks a_capital_variable (both contexts (arguments_by g)) (token_shrinks capital_variable_at) (both_keeps contexts (arguments_by g) contexts_keep arguments_keep)))
      (made_shrinks raw_operator (both a_name (both param_pats (pattern_subs_by g))) (both_shrinks a_name (both param_pats (pattern_subs_by g)) (token_shrinks name_at) (both_keeps param_pats (pattern_subs_by g) param_pats_keep subs_keep))))

module _ (n : ℕ) (g h : Grammar Word RawPattern) (s : Shrinks g) (a : Agree n g h) where
  bound_agree : Agree n (pattern_bound_by g) (pattern_bound_by h)
  bound_agree = made_agree n raw_bound (both binders g) (both binders h) (both_agree n binders binders g h (agree_same n binders) binders_keep a)

  arguments_agree : Agree n (both contexts (arguments_by g)) (both contexts (arguments_by h))
  arguments_agree =
      both_agree n contexts contexts (arguments_by g) (arguments_by h) (agree_same n contexts) contexts_keep
      (optional_agree n (is_mark mark.OpenBracket) [] (args_by g) (args_by h) (row_agree (is_mark mark.Semicolon) (is_mark mark.CloseBracket) n g h (keeps g s) a))

  subs_agree : Agree n (both param_pats (pattern_subs_by g)) (both param_pats (pattern_subs_by h))
  subs_agree =
      both_agree n param_pats param_pats (pattern_subs_by g) (pattern_subs_by h) (agree_same n param_pats) param_pats_keep
      (optional_agree n (is_mark mark.OpenBrace) [] (pattern_bounds_by g) (pattern_bounds_by h) (row_agree (is_mark mark.Semicolon) (is_mark mark.CloseBrace) n (pattern_bound_by g) (pattern_bound_by h) (keeps (pattern_bound_by g) (bound_shrinks g s)) bound_agree))

  step_agree : Agree (suc n) (pattern_by g) (pattern_by h)
  step_agree =
      or_word_agree (suc n) pattern_variable_at (choose (stands capital_variable_at) (second_order_by g) (pattern_operator_by g)) (choose (stands capital_variable_at) (second_order_by h) (pattern_operator_by h))
      (choose_agree (suc n) (stands capital_variable_at) (second_order_by g) (second_order_by h) (pattern_operator_by g) (pattern_operator_by h)
      (made_agree (suc n) raw_meta (both a_capital_variable (both contexts (arguments_by g))) (both a_capital_variable (both contexts (arguments_by h)))
      (both_later n a_capital_variable a_capital_variable (both contexts (arguments_by g)) (both contexts (arguments_by h)) (agree_same (suc n) a_capital_variable) (token_shrinks capital_variable_at) arguments_agree))
      (made_agree (suc n) raw_operator (both a_name (both param_pats (pattern_subs_by g))) (both a_name (both param_pats (pattern_subs_by h)))
      (both_later n a_name a_name (both param_pats (pattern_subs_by g)) (both param_pats (pattern_subs_by h)) (agree_same (suc n) a_name) (token_shrinks name_at) subs_agree)))

pub pattern_unfolds : (ts : List Word) → pattern ts ≡ pattern_by pattern ts
unfolding pattern
pattern_unfolds ts = unfolds pattern_by (record { shrinks = step_shrinks; agrees = step_agree }) ts
