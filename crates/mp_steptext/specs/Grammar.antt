-- The grammar of steps, over words and over a grammar of what is given.
--   step = "rule" Small ("at" Num)? ("with" [ given (; given)* ])? | "rw" Small place [ (Num (; Num)*)? ]
--   given = Cap := body     place = "concl" | "hyp" Num
use Rattle.std.specs.Prelude.{ℕ, List, [], ◌∷◌, Bool, Option, None, Some}
use Rattle.mp_words.specs.declared.word.Word.{Word}
use Rattle.mp_words.specs.declared.word.Mark.TheVariants as mark
use Rattle.mp_words.specs.declared.word.Keyword.{Keyword}
use Rattle.mp_words.specs.declared.word.Keyword.TheVariants as keyword
use Rattle.mp_words.specs.declared.raw.RawName.{RawName}
use Rattle.mp_words.specs.declared.raw.RawNumber.{RawNumber}
use Rattle.mp_words.specs.Grammars.{Grammar, after, both, forms, listed, made, nothing, optional, row}
use Rattle.mp_words.specs.Fronts.{a_capital, a_name, a_number, is_mark, is_word, with_place}
use Rattle.mp_steptext.specs.declared.raw.RawGiven.{RawGiven}
use Rattle.mp_steptext.specs.declared.raw.RawPlace.{RawPlace}
use Rattle.mp_steptext.specs.declared.raw.RawPlace.TheVariants as raw_place
use Rattle.mp_steptext.specs.declared.raw.RawRewriteStep.{RawRewriteStep}
use Rattle.mp_steptext.specs.declared.raw.RawRuleStep.{RawRuleStep}
use Rattle.mp_steptext.specs.declared.raw.RawStep.{RawStep}
use Rattle.mp_steptext.specs.declared.raw.RawStep.TheVariants as raw

-- the number behind this word, if the word stands there
abbrev pub number_behind : Keyword → Grammar Word (Option RawNumber)
number_behind k = optional (is_word k) None (made Some a_number)

-- a step by a rewrite, of the rewrite's name, its place and its address
abbrev pub raw_rewrite_step : RawName × (RawPlace × List RawNumber) → RawRewriteStep
raw_rewrite_step (rewrite, (term, numbers)) = record { rewrite = rewrite; place = term; address = numbers }

module _ {R : Type 0} where
  -- what is given, of its name, its place and its body
  abbrev pub raw_given : RawName × (ℕ × R) → RawGiven R
  raw_given (name, (at, body)) = record { name = name; body = body; at = at }

  -- a step by a rule, of the rule's name, its number and what is given
  abbrev pub raw_rule_step : RawName × (Option RawNumber × List (RawGiven R)) → RawRuleStep R
  raw_rule_step (rule, (at, gs)) = record { rule = rule; place = at; given = gs }

  -- Cap := body
  abbrev pub given : Grammar Word R → Grammar Word (RawGiven R)
  given body = made raw_given (both a_capital (after (is_mark mark.Becomes) (with_place body)))

  -- [ given (; given)* ]
  abbrev pub some_given : Grammar Word R → Grammar Word (List (RawGiven R))
  some_given body = after (is_mark mark.OpenBracket) (row (given body) (is_mark mark.Semicolon) (is_mark mark.CloseBracket))

  -- what is given behind `with`, or nothing
  abbrev pub all_given : Grammar Word R → Grammar Word (List (RawGiven R))
  all_given body = optional (is_word keyword.With) [] (some_given body)

  -- Small ("at" Num)? ("with" [ given (; given)* ])?
  abbrev pub rule_step : Grammar Word R → Grammar Word (RawRuleStep R)
  rule_step body = made raw_rule_step (both a_name (both (number_behind keyword.At) (all_given body)))

-- `concl`, or `hyp` and a number
abbrev pub place_forms : List ((Word → Bool) × (Grammar Word RawPlace))
place_forms = (is_word keyword.Concl, nothing raw_place.Concl) ∷ (is_word keyword.Hyp, made raw_place.Hyp a_number) ∷ []

-- "concl" | "hyp" Num
abbrev pub a_place : Grammar Word RawPlace
a_place = forms place_forms

-- [ Num (; Num)* ], or [ ]
abbrev pub address : Grammar Word (List RawNumber)
address = after (is_mark mark.OpenBracket) (listed a_number (is_mark mark.Semicolon) (is_mark mark.CloseBracket))

-- Small place [ Num (; Num)* ]
abbrev pub rewrite_step : Grammar Word RawRewriteStep
rewrite_step = made raw_rewrite_step (both a_name (both a_place address))

-- a step by a rule after `rule`, and one by a rewrite after `rw`
abbrev pub step_forms : {R : Type 0} → Grammar Word R → List ((Word → Bool) × (Grammar Word (RawStep R)))
step_forms body = (is_word keyword.Rule, made raw.Rule (rule_step body)) ∷ (is_word keyword.Rw, made raw.Rewrite rewrite_step) ∷ []

-- "rule" Small ("at" Num)? ("with" [ given (; given)* ])? | "rw" Small place [ (Num (; Num)*)? ]
abbrev pub step : {R : Type 0} → Grammar Word R → Grammar Word (RawStep R)
step body = forms (step_forms body)
