-- The words for the kinds of failure.
use Rattle.std.specs.Prelude.{ℕ, List, [], ◌∷◌, Option, None}
use Rattle.mp_names.specs.Table.{text_of}
use Rattle.mp_strategy.specs.declared.outcome.Kind.{Kind}
use Rattle.mp_strategy.specs.declared.outcome.Kind.TheVariants as kind
use Rattle.mp_words.specs.declared.word.What.{What}
use Rattle.mp_words.specs.declared.word.What.TheVariants as what
use Rattle.mp_words.specs.declared.word.Word.{Word}
use Rattle.mp_words.specs.Words.{spelled}
use Rattle.mp_treetext.specs.declared.kind.KindName.{KindName}
use Rattle.mp_treetext.specs.Results.{kind_text}

-- a row of the table that is searched, as a name and its kind
abbrev pub kind_row : KindName → List ℕ × Kind
kind_row r = (r.0.now, r.1)

-- a kind beside its name
abbrev pub with_text : Kind → List ℕ × Kind
with_text k = (kind_text k, k)

-- the kinds of failure, each beside its name
abbrev pub kinds : List (List ℕ × Kind)
kinds =
    with_text kind.OutOfFuel ∷ with_text kind.NoMatch ∷ with_text kind.BadArgument ∷ with_text kind.BadAddress ∷ with_text kind.UnderBinder
    ∷ with_text kind.TooLarge ∷ with_text kind.NoProgress ∷ with_text kind.Incomplete ∷ with_text kind.WrongCount ∷ with_text kind.Failed ∷ []

-- the kind of failure with this name, if there is one
abbrev pub failure_kind_named : List ℕ → Option Kind
failure_kind_named text = spelled kinds text

-- the kind of failure that is written, where names have their numbers by this table
abbrev pub kind_written : List (List ℕ) → What → Option Kind
kind_written names (what.Cap n) = failure_kind_named (text_of names n.0)
kind_written names other = None

-- the kind of failure that the word is, where names have their numbers by this table
abbrev pub failure_kind_at : List (List ℕ) → Word → Option Kind
failure_kind_at names w = kind_written names w.what
