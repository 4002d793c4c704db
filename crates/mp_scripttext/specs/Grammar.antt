-- The grammar of scripts, over words.
--   script = entry*     entry = "goal" Small ("fuel" Num)? : sequent "by" strategy
--   strategy = chain ("orelse" chain)*     chain = atom link*     link = "then" atom | "thenl" list     list = [ strategy (; strategy)* ]
--   atom = prefix? argument     prefix = "try" | "repeat" Num | "progress" | "complete"
--   argument = ( strategy ) | simple     simple = "id" | "fail" | "race" list | step
use Rattle.std.specs.Prelude.{ℕ, ◌++◌, ◌||◌, Bool, List, Option, None, Some}
use Rattle.mp_words.specs.declared.word.Word.{Word}
use Rattle.mp_words.specs.declared.word.Mark.TheVariants as mark
use Rattle.mp_words.specs.declared.word.Keyword.TheVariants as keyword
use Rattle.mp_words.specs.declared.raw.RawName.{RawName}
use Rattle.mp_words.specs.declared.raw.RawNumber.{RawNumber}
use Rattle.mp_words.specs.Grammars.{Grammar, Is, Stuck, after, both, ended, form, fronted, itself, made, many, nothing, repeated, row}
use Rattle.mp_words.specs.Fronts.{a_number, is_mark, is_word, name_behind, with_place}
use Rattle.mp_termtext.specs.declared.raw.RawSequent.{RawSequent}
use Rattle.mp_termtext.specs.Grammar.{sequent}
use Rattle.mp_steptext.specs.Grammar.{number_behind}
use Rattle.mp_steptext.specs.Terms.{step_with_terms}
use Rattle.mp_scripttext.specs.declared.raw.RawPrefix.{RawPrefix}
use Rattle.mp_scripttext.specs.declared.raw.RawPrefix.TheVariants as before
use Rattle.mp_scripttext.specs.declared.raw.RawStrategy.{RawStrategy}
use Rattle.mp_scripttext.specs.declared.raw.RawLink.{RawLink, Then, ThenL, OrElse}
use Rattle.mp_scripttext.specs.declared.raw.RawAtom.{RawAtom, Id, Fail, Step, Race, Prefix, Group}
use Rattle.mp_scripttext.specs.declared.raw.RawEntry.{RawEntry}

-- ## Parts of a strategy, over a grammar of strategies

-- [ strategy (; strategy)* ], behind its bracket
abbrev pub strategies_by : Grammar Word RawStrategy → Grammar Word (List RawStrategy)
strategies_by inner = row inner (is_mark mark.Semicolon) (is_mark mark.CloseBracket)

-- [ strategy (; strategy)* ]
abbrev pub list_by : Grammar Word RawStrategy → Grammar Word (List RawStrategy)
list_by inner = after (is_mark mark.OpenBracket) (strategies_by inner)

-- a strategy and the parenthesis behind it
abbrev pub group_by : Grammar Word RawStrategy → Grammar Word RawAtom
group_by inner = made Group (ended inner (is_mark mark.CloseParenthesis))

-- "id" | "fail" | "race" list | step
abbrev pub simple_by : Grammar Word RawStrategy → Grammar Word RawAtom
simple_by inner =
    form (is_word keyword.Id) (nothing Id)
    (form (is_word keyword.Fail) (nothing Fail)
    (form (is_word keyword.Race) (made Race (list_by inner))
    (made Step step_with_terms)))

-- ( strategy ) | simple
abbrev pub argument_by : Grammar Word RawStrategy → Grammar Word RawAtom
argument_by inner = form (is_mark mark.OpenParenthesis) (group_by inner) (simple_by inner)

-- `repeat` with its number
abbrev pub repeat_prefix : RawNumber → Option RawPrefix
repeat_prefix n = Some (before.Repeat n)

-- "try" | "progress" | "complete" | "repeat" Num, or nothing
abbrev pub prefix : Grammar Word (Option RawPrefix)
prefix =
    form (is_word keyword.Try) (nothing (Some before.Try))
    (form (is_word keyword.Progress) (nothing (Some before.Progress))
    (form (is_word keyword.Complete) (nothing (Some before.Complete))
    (form (is_word keyword.Repeat) (made repeat_prefix a_number)
    (nothing None))))

-- an atom, of its prefix if it has one and its argument
abbrev pub atom_of : Option RawPrefix × RawAtom → RawAtom
atom_of (None, argument) = argument
atom_of (Some p, argument) = Prefix p argument

-- prefix? argument
abbrev pub atom_by : Grammar Word RawStrategy → Grammar Word RawAtom
atom_by inner = made atom_of (both prefix (argument_by inner))

-- "then" atom | "thenl" list
abbrev pub link_by : Grammar Word RawStrategy → Grammar Word RawLink
link_by inner = form (is_word keyword.Then) (made Then (atom_by inner)) (after (is_word keyword.ThenL) (made ThenL (list_by inner)))

-- the words begin a link
abbrev pub begins_link : List Word → Bool
begins_link ts = fronted (is_word keyword.Then) ts || fronted (is_word keyword.ThenL) ts

-- a chain, of its place, its first atom and its links
abbrev pub chain_of : ℕ × (RawAtom × List RawLink) → RawStrategy
chain_of (at, (first, links)) = record { at = at; first = first; links = links }

-- atom link*
abbrev pub chain_by : Grammar Word RawStrategy → Grammar Word RawStrategy
chain_by inner = made chain_of (with_place (both (atom_by inner) (repeated begins_link (link_by inner))))

-- "orelse" chain
abbrev pub other_by : Grammar Word RawStrategy → Grammar Word RawLink
other_by inner = after (is_word keyword.OrElse) (made OrElse (chain_by inner))

-- a chain with further links
abbrev pub with_links : RawStrategy × List RawLink → RawStrategy
with_links (chain, links) = record { at = chain.at; first = chain.first; links = chain.links ++ links }

-- chain ("orelse" chain)*
abbrev pub strategy_by : Grammar Word RawStrategy → Grammar Word RawStrategy
strategy_by inner = made with_links (both (chain_by inner) (repeated (fronted (is_word keyword.OrElse)) (other_by inner)))

-- ## Strategies

-- chains with `orelse` between each two; there is one at least
unfoldable pub strategy : Grammar Word RawStrategy
strategy = itself strategy_by

-- strategies up to the end of their list
abbrev pub strategies : Grammar Word (List RawStrategy)
strategies = strategies_by strategy

-- strategies between brackets
abbrev pub listed : Grammar Word (List RawStrategy)
listed = list_by strategy

-- a strategy and the parenthesis behind it
abbrev pub group : Grammar Word RawAtom
group = group_by strategy

-- an atom that needs no parentheses as an argument
abbrev pub simple : Grammar Word RawAtom
simple = simple_by strategy

-- what a prefix can stand before
abbrev pub argument : Grammar Word RawAtom
argument = argument_by strategy

-- an argument, after a prefix or alone
abbrev pub atom : Grammar Word RawAtom
atom = atom_by strategy

-- `then` and an atom, or `thenl` and a list
abbrev pub link : Grammar Word RawLink
link = link_by strategy

-- an atom, and links as long as there are any
abbrev pub chain : Grammar Word RawStrategy
chain = chain_by strategy

-- `orelse` and a chain
abbrev pub other : Grammar Word RawLink
other = other_by strategy

-- ## Scripts

-- a goal, of its name, its fuel, its sequent and its strategy
abbrev pub raw_entry : RawName × (Option RawNumber × (RawSequent × RawStrategy)) → RawEntry
raw_entry (name, (fuel, (goal, strategy))) = record { name = name; fuel = fuel; goal = goal; strategy = strategy }

-- "goal" Small ("fuel" Num)? : sequent "by" strategy
abbrev pub entry : Grammar Word RawEntry
entry = made raw_entry (both (name_behind keyword.Goal) (both (number_behind keyword.Fuel) (after (is_mark mark.Colon) (both sequent (after (is_word keyword.By) strategy)))))

-- entry*
abbrev pub script : Grammar Word (List RawEntry)
script = many entry

-- the strategy stands at the front of the words, and these are left
abbrev pub IsStrategy : RawStrategy → List Word → List Word → Type 0
IsStrategy = Is strategy

-- a reading of a strategy is stuck at the first of these words, or at their end
abbrev pub StuckStrategy : List Word → List Word → Type 0
StuckStrategy = Stuck strategy

-- the goals are the words up to these
abbrev pub IsScript : List RawEntry → List Word → List Word → Type 0
IsScript = Is script

-- a reading of goals is stuck at the first of these words, or at their end
abbrev pub StuckScript : List Word → List Word → Type 0
StuckScript = Stuck script
