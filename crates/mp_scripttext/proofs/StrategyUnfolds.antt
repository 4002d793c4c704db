-- A strategy is its step over strategies.
use Rattle.std.proofs.Common.{◌≡◌, ℕ, suc, List, Bool, Option, None, Some}
use Rattle.mp_words.specs.declared.word.Word.{Word}
use Rattle.mp_words.specs.declared.word.Mark.TheVariants as mark
use Rattle.mp_words.specs.declared.word.Keyword.TheVariants as keyword
use Rattle.mp_words.specs.Grammars.{Agree, Grammar, Keeps, Local, Shrinks, both, ended, form, fronted, made, nothing, repeated, skip}
use Rattle.mp_words.specs.Fronts.{a_number, is_mark, is_word, number_at, with_place}
use Rattle.mp_words.proofs.FrontFacts.{with_place_agree, with_place_shrinks}
use Rattle.mp_words.proofs.Grammars.{after_agree, after_shrinks, agree_less, agree_same, both_agree, both_shrinks, both_shrinks_last, choose_keeps, ended_agree, ended_shrinks, form_agree, form_shrinks, keeps, made_agree, made_shrinks, nothing_keeps, repeated_agree, repeated_keeps, row_agree, row_shrinks, skip_keeps, token_shrinks, unfolds}
use Rattle.mp_steptext.specs.Terms.{step_with_terms}
use Rattle.mp_steptext.proofs.StepGrammar.{term_step_shrinks}
use Rattle.mp_scripttext.specs.declared.raw.RawPrefix.{RawPrefix}
use Rattle.mp_scripttext.specs.declared.raw.RawPrefix.TheVariants as before
use Rattle.mp_scripttext.specs.declared.raw.RawStrategy.{RawStrategy}
use Rattle.mp_scripttext.specs.declared.raw.RawLink.{RawLink, Then, ThenL, OrElse}
use Rattle.mp_scripttext.specs.declared.raw.RawAtom.{Id, Fail, Step, Race, Group}
use Rattle.mp_scripttext.specs.Grammar.{argument_by, atom_by, atom_of, begins_link, chain_by, chain_of, group_by, link_by, list_by, other_by, prefix, repeat_prefix, simple_by, strategies_by, strategy, strategy_by, with_links}

abbrev opens : Word → Bool
opens = is_mark mark.OpenParenthesis

abbrev closes : Word → Bool
closes = is_mark mark.CloseParenthesis

abbrev begins_list : Word → Bool
begins_list = is_mark mark.OpenBracket

-- ## What is left

form_keeps : {X : Type 0} (test : Word → Bool) (g h : Grammar Word X) → Keeps g → Keeps h → Keeps (form test g h)
form_keeps test g h a b = choose_keeps (fronted test) (skip g) h (skip_keeps g a) b

prefix_keeps : Keeps prefix
prefix_keeps =
    let one = λ (p : RawPrefix). nothing_keeps {W = Word} (Some p) in
    let number = made repeat_prefix a_number in
    form_keeps (is_word keyword.Try) (nothing (Some before.Try)) _ (one before.Try)
    (form_keeps (is_word keyword.Progress) (nothing (Some before.Progress)) _ (one before.Progress)
    (form_keeps (is_word keyword.Complete) (nothing (Some before.Complete)) _ (one before.Complete)
    (form_keeps (is_word keyword.Repeat) number (nothing None) (keeps number (made_shrinks repeat_prefix a_number (token_shrinks number_at))) (nothing_keeps {W = Word} {X = Option RawPrefix} None))))

module _ (g : Grammar Word RawStrategy) (a : Shrinks g) where
  strategies_shrink : Shrinks (strategies_by g)
  strategies_shrink = row_shrinks (is_mark mark.Semicolon) (is_mark mark.CloseBracket) g a

  list_shrinks : Shrinks (list_by g)
  list_shrinks = after_shrinks begins_list (strategies_by g) (keeps (strategies_by g) strategies_shrink)

  group_shrinks : Shrinks (group_by g)
  group_shrinks = made_shrinks Group (ended g closes) (ended_shrinks g closes (keeps g a))

  simple_shrinks : Shrinks (simple_by g)
  simple_shrinks =
      let race = made Race (list_by g) in
      let step = made Step step_with_terms in
      form_shrinks (is_word keyword.Id) (nothing Id) (form (is_word keyword.Fail) (nothing Fail) (form (is_word keyword.Race) race step)) (nothing_keeps {W = Word} Id)
      (form_shrinks (is_word keyword.Fail) (nothing Fail) (form (is_word keyword.Race) race step) (nothing_keeps {W = Word} Fail)
      (form_shrinks (is_word keyword.Race) race step (keeps race (made_shrinks Race (list_by g) list_shrinks)) (made_shrinks Step step_with_terms term_step_shrinks)))

  argument_shrinks : Shrinks (argument_by g)
  argument_shrinks = form_shrinks opens (group_by g) (simple_by g) (keeps (group_by g) group_shrinks) simple_shrinks

  atom_shrinks : Shrinks (atom_by g)
  atom_shrinks = made_shrinks atom_of (both prefix (argument_by g)) (both_shrinks_last prefix (argument_by g) prefix_keeps argument_shrinks)

  link_shrinks : Shrinks (link_by g)
  link_shrinks =
      let one = made Then (atom_by g) in
      let many = made ThenL (list_by g) in
      form_shrinks (is_word keyword.Then) one _ (keeps one (made_shrinks Then (atom_by g) atom_shrinks))
      (after_shrinks (is_word keyword.ThenL) many (keeps many (made_shrinks ThenL (list_by g) list_shrinks)))

  chain_shrinks : Shrinks (chain_by g)
  chain_shrinks =
      let links = repeated begins_link (link_by g) in
      made_shrinks chain_of (with_place (both (atom_by g) links)) (with_place_shrinks (both (atom_by g) links) (both_shrinks (atom_by g) links atom_shrinks (repeated_keeps begins_link (link_by g) link_shrinks)))

  other_shrinks : Shrinks (other_by g)
  other_shrinks =
      let chain = made OrElse (chain_by g) in
      after_shrinks (is_word keyword.OrElse) chain (keeps chain (made_shrinks OrElse (chain_by g) chain_shrinks))

  strategy_shrinks : Shrinks (strategy_by g)
  strategy_shrinks =
      let begins = fronted (is_word keyword.OrElse) in
      let others = repeated begins (other_by g) in
      made_shrinks with_links (both (chain_by g) others) (both_shrinks (chain_by g) others chain_shrinks (repeated_keeps begins (other_by g) other_shrinks))

-- ## Agreeing on few words

module _ (n : ℕ) (g h : Grammar Word RawStrategy) (a : Shrinks g) (e : Agree n g h) where
  list_agree : Agree (suc n) (list_by g) (list_by h)
  list_agree = after_agree n begins_list (strategies_by g) (strategies_by h) (row_agree (is_mark mark.Semicolon) (is_mark mark.CloseBracket) n g h (keeps g a) e)

  list_agrees : {X : Type 0} (make : List RawStrategy → X) → Agree n (made make (list_by g)) (made make (list_by h))
  list_agrees make = made_agree n make (list_by g) (list_by h) (agree_less n (list_by g) (list_by h) list_agree)

  group_agree : Agree n (group_by g) (group_by h)
  group_agree = made_agree n Group (ended g closes) (ended h closes) (ended_agree n g h closes e)

  simple_agree : Agree (suc n) (simple_by g) (simple_by h)
  simple_agree =
      form_agree n (is_word keyword.Id) (nothing Id) (nothing Id) _ _ (agree_same n (nothing Id))
      (form_agree n (is_word keyword.Fail) (nothing Fail) (nothing Fail) _ _ (agree_same n (nothing Fail))
      (form_agree n (is_word keyword.Race) (made Race (list_by g)) (made Race (list_by h)) (made Step step_with_terms) (made Step step_with_terms) (list_agrees Race) (agree_same (suc n) (made Step step_with_terms))))

  argument_agree : Agree (suc n) (argument_by g) (argument_by h)
  argument_agree = form_agree n opens (group_by g) (group_by h) (simple_by g) (simple_by h) group_agree simple_agree

  atom_agree : Agree (suc n) (atom_by g) (atom_by h)
  atom_agree = made_agree (suc n) atom_of (both prefix (argument_by g)) (both prefix (argument_by h)) (both_agree (suc n) prefix prefix (argument_by g) (argument_by h) (agree_same (suc n) prefix) prefix_keeps argument_agree)

  link_agree : Agree (suc n) (link_by g) (link_by h)
  link_agree =
      form_agree n (is_word keyword.Then) (made Then (atom_by g)) (made Then (atom_by h)) _ _ (made_agree n Then (atom_by g) (atom_by h) (agree_less n (atom_by g) (atom_by h) atom_agree))
      (after_agree n (is_word keyword.ThenL) (made ThenL (list_by g)) (made ThenL (list_by h)) (list_agrees ThenL))

  chain_agree : Agree (suc n) (chain_by g) (chain_by h)
  chain_agree =
      let links : Grammar Word RawStrategy → Grammar Word (List RawLink) = λ k. repeated begins_link (link_by k) in
      made_agree (suc n) chain_of (with_place (both (atom_by g) (links g))) (with_place (both (atom_by h) (links h)))
      (with_place_agree (suc n) (both (atom_by g) (links g)) (both (atom_by h) (links h))
      (both_agree (suc n) (atom_by g) (atom_by h) (links g) (links h) atom_agree (keeps (atom_by g) (atom_shrinks g a)) (repeated_agree begins_link (suc n) (link_by g) (link_by h) (keeps (link_by g) (link_shrinks g a)) link_agree)))

  other_agree : Agree (suc n) (other_by g) (other_by h)
  other_agree =
      after_agree n (is_word keyword.OrElse) (made OrElse (chain_by g)) (made OrElse (chain_by h)) (made_agree n OrElse (chain_by g) (chain_by h) (agree_less n (chain_by g) (chain_by h) chain_agree))

  strategy_agree : Agree (suc n) (strategy_by g) (strategy_by h)
  strategy_agree =
      let begins = fronted (is_word keyword.OrElse) in
      made_agree (suc n) with_links (both (chain_by g) (repeated begins (other_by g))) (both (chain_by h) (repeated begins (other_by h)))
      (both_agree (suc n) (chain_by g) (chain_by h) (repeated begins (other_by g)) (repeated begins (other_by h)) chain_agree (keeps (chain_by g) (chain_shrinks g a))
      (repeated_agree begins (suc n) (other_by g) (other_by h) (keeps (other_by g) (other_shrinks g a)) other_agree))

strategy_local : Local strategy_by
strategy_local = record { shrinks = strategy_shrinks; agrees = strategy_agree }

pub strategy_unfolds : (ts : List Word) → strategy ts ≡ strategy_by strategy ts
unfolding strategy
strategy_unfolds ts = unfolds strategy_by strategy_local ts
