-- A step takes a word.
use Rattle.std.proofs.Common.{None, Some}
use Rattle.mp_words.specs.declared.word.Word.{Word}
use Rattle.mp_words.specs.declared.word.Mark.TheVariants as mark
use Rattle.mp_words.specs.declared.word.Keyword.{Keyword}
use Rattle.mp_words.specs.declared.word.Keyword.TheVariants as keyword
use Rattle.mp_words.specs.Grammars.{Grammar, Keeps, Shrinks, after, both, listed, made, row}
use Rattle.mp_words.specs.Fronts.{a_capital, a_name, a_number, capital_at, is_mark, is_word, name_at, number_at, with_place}
use Rattle.mp_words.proofs.Grammars.{after_shrinks, both_keeps, both_shrinks, forms_shrinks, keeps, listed_shrinks, made_keeps, made_shrinks, nothing_keeps, optional_keeps, row_shrinks, token_shrinks}
use Rattle.mp_words.proofs.FrontFacts.{with_place_shrinks}
use Rattle.mp_termtext.specs.Grammar.{bound, term}
use Rattle.mp_termtext.proofs.TermUnfolds.{bound_shrinks, term_shrinks}
use Rattle.mp_steptext.specs.Grammar.{a_place, address, all_given, given, number_behind, place_forms, raw_given, raw_rewrite_step, raw_rule_step, rewrite_step, rule_step, some_given, step, step_forms}
use Rattle.mp_steptext.specs.declared.raw.RawPlace.{RawPlace}
use Rattle.mp_steptext.specs.declared.raw.RawPlace.TheVariants as raw_place
use Rattle.mp_steptext.specs.declared.raw.RawStep.{RawStep}
use Rattle.mp_steptext.specs.declared.raw.RawStep.TheVariants as raw
use Rattle.mp_steptext.specs.Terms.{step_with_terms}

number_behind_keeps : (k : Keyword) → Keeps (number_behind k)
number_behind_keeps k = optional_keeps (is_word k) None (made Some a_number) (made_keeps Some a_number (keeps a_number (token_shrinks number_at)))

module _ {R : Type 0} (body : Grammar Word R) (a : Shrinks body) where
  pub given_shrinks : Shrinks (given body)
  given_shrinks =
      made_shrinks raw_given (both a_capital (after (is_mark mark.Becomes) (with_place body))) (both_shrinks a_capital (after (is_mark mark.Becomes) (with_place body)) (token_shrinks capital_at)
      (keeps (after (is_mark mark.Becomes) (with_place body)) (after_shrinks (is_mark mark.Becomes) (with_place body) (keeps (with_place body) (with_place_shrinks body a)))))

  all_given_keeps : Keeps (all_given body)
  all_given_keeps =
      let list = row (given body) (is_mark mark.Semicolon) (is_mark mark.CloseBracket) in
      let some = after_shrinks (is_mark mark.OpenBracket) list (keeps list (row_shrinks (is_mark mark.Semicolon) (is_mark mark.CloseBracket) (given body) given_shrinks)) in
      optional_keeps (is_word keyword.With) _ (some_given body) (keeps (some_given body) some)

  rule_step_keeps : Keeps (rule_step body)
  rule_step_keeps =
      let behind = both (number_behind keyword.At) (all_given body) in
      made_keeps raw_rule_step (both a_name behind) (both_keeps a_name behind (keeps a_name (token_shrinks name_at)) (both_keeps (number_behind keyword.At) (all_given body) (number_behind_keeps keyword.At) all_given_keeps))

place_keeps : Keeps a_place
place_keeps = keeps a_place (forms_shrinks RawPlace place_forms (nothing_keeps {W = Word} {X = RawPlace} raw_place.Concl, (made_keeps raw_place.Hyp a_number (keeps a_number (token_shrinks number_at)), tt)))

address_keeps : Keeps address
address_keeps =
    let numbers = listed a_number (is_mark mark.Semicolon) (is_mark mark.CloseBracket) in
    keeps address (after_shrinks (is_mark mark.OpenBracket) numbers (keeps numbers (listed_shrinks (is_mark mark.Semicolon) (is_mark mark.CloseBracket) a_number (token_shrinks number_at))))

rewrite_step_keeps : Keeps rewrite_step
rewrite_step_keeps = made_keeps raw_rewrite_step (both a_name (both a_place address)) (both_keeps a_name (both a_place address) (keeps a_name (token_shrinks name_at)) (both_keeps a_place address place_keeps address_keeps))

pub step_shrinks : {R : Type 0} (body : Grammar Word R) → Shrinks body → Shrinks (step body)
step_shrinks {R} body a = forms_shrinks (RawStep R) (step_forms body) (made_keeps raw.Rule (rule_step body) (rule_step_keeps body a), (made_keeps raw.Rewrite rewrite_step rewrite_step_keeps, tt))

pub term_step_shrinks : Shrinks step_with_terms
term_step_shrinks = step_shrinks bound (bound_shrinks term term_shrinks)
