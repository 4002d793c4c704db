-- Tests of one word, and the grammars of one word.
use Rattle.std.specs.Prelude.{ℕ, Bool, false, nat_eq, List, [], ◌∷◌, Option, None, Some}
use Rattle.mp_words.specs.declared.word.Mark.{Mark}
use Rattle.mp_words.specs.declared.word.Mark.TheVariants as mark
use Rattle.mp_words.specs.declared.word.Keyword.{Keyword}
use Rattle.mp_words.specs.declared.word.Keyword.TheVariants as keyword
use Rattle.mp_words.specs.declared.word.What.{What}
use Rattle.mp_words.specs.declared.word.What.TheVariants as what
use Rattle.mp_words.specs.declared.word.Word.{Word}
use Rattle.mp_words.specs.declared.raw.RawName.{RawName}
use Rattle.mp_words.specs.declared.raw.RawNumber.{RawNumber}
use Rattle.mp_words.specs.Grammars.{Grammar, then_read, read, pair, token, after}

-- a number for each mark, to tell them apart
abbrev pub mark_code : Mark → ℕ
mark_code mark.OpenBrace = 0
mark_code mark.CloseBrace = 1
mark_code mark.OpenBracket = 2
mark_code mark.CloseBracket = 3
mark_code mark.OpenParenthesis = 4
mark_code mark.CloseParenthesis = 5
mark_code mark.Less = 6
mark_code mark.Greater = 7
mark_code mark.Turnstile = 8
mark_code mark.Yields = 9
mark_code mark.Provided = 10
mark_code mark.Rewrites = 11
mark_code mark.And = 12
mark_code mark.Comma = 13
mark_code mark.Semicolon = 14
mark_code mark.Colon = 15
mark_code mark.Becomes = 16
mark_code mark.Dot = 17
mark_code mark.At = 18
mark_code mark.Bar = 19

-- a number for each word of a grammar, to tell them apart
abbrev pub keyword_code : Keyword → ℕ
keyword_code keyword.Rule = 0
keyword_code keyword.Rewrite = 1
keyword_code keyword.Goal = 2
keyword_code keyword.Fuel = 3
keyword_code keyword.By = 4
keyword_code keyword.Then = 5
keyword_code keyword.ThenL = 6
keyword_code keyword.OrElse = 7
keyword_code keyword.Try = 8
keyword_code keyword.Repeat = 9
keyword_code keyword.Progress = 10
keyword_code keyword.Complete = 11
keyword_code keyword.Race = 12
keyword_code keyword.Fail = 13
keyword_code keyword.Id = 14
keyword_code keyword.Rw = 15
keyword_code keyword.Concl = 16
keyword_code keyword.Hyp = 17
keyword_code keyword.At = 18
keyword_code keyword.With = 19
keyword_code keyword.Closed = 20
keyword_code keyword.Open = 21
keyword_code keyword.Failed = 22
keyword_code keyword.Strategy = 23
keyword_code keyword.Claim = 24
keyword_code keyword.Send = 25
keyword_code keyword.Again = 26
keyword_code keyword.Die = 27
keyword_code keyword.Lose = 28
keyword_code keyword.Reissue = 29

-- what is written is this mark
abbrev pub marks : Mark → What → Bool
marks m (what.Mark k) = nat_eq (mark_code k) (mark_code m)
marks m other = false

-- the word is this mark
abbrev pub is_mark : Mark → Word → Bool
is_mark m w = marks m w.what

-- what is written is this word of a grammar
abbrev pub spells : Keyword → What → Bool
spells k (what.Small n (Some other)) = nat_eq (keyword_code other) (keyword_code k)
spells k other = false

-- the word is this word of a grammar
abbrev pub is_word : Keyword → Word → Bool
is_word k w = spells k w.what

-- a name at a place, if what is written is one that begins with a small letter
abbrev pub small_name : ℕ → What → Option RawName
small_name at (what.Small n k) = Some (record { name = n; at = at })
small_name at other = None

-- a name at a place, if what is written is one that begins with a capital letter
abbrev pub capital_name : ℕ → What → Option RawName
capital_name at (what.Cap n) = Some (record { name = n; at = at })
capital_name at other = None

-- the name of a second-order variable at a place, if what is written is one
abbrev pub capital_variable_name : ℕ → What → Option RawName
capital_variable_name at (what.CapVar n) = Some (record { name = n; at = at })
capital_variable_name at other = None

-- a number at a place, if what is written is one
abbrev pub written_number : ℕ → What → Option RawNumber
written_number at (what.Num n) = Some (record { value = n; at = at })
written_number at other = None

-- the name that begins with a small letter and that the word is
abbrev pub name_at : Word → Option RawName
name_at w = small_name w.at w.what

-- the name that begins with a capital letter and that the word is
abbrev pub capital_at : Word → Option RawName
capital_at w = capital_name w.at w.what

-- the second-order variable that the word is
abbrev pub capital_variable_at : Word → Option RawName
capital_variable_at w = capital_variable_name w.at w.what

-- the number that the word is
abbrev pub number_at : Word → Option RawNumber
number_at w = written_number w.at w.what

-- a name that begins with a small letter
abbrev pub a_name : Grammar Word RawName
a_name = token name_at

-- a name that begins with a capital letter
abbrev pub a_capital : Grammar Word RawName
a_capital = token capital_at

-- a second-order variable
abbrev pub a_capital_variable : Grammar Word RawName
a_capital_variable = token capital_variable_at

-- a number
abbrev pub a_number : Grammar Word RawNumber
a_number = token number_at

-- a name behind this word of a grammar
abbrev pub name_behind : Keyword → Grammar Word RawName
name_behind k = after (is_word k) a_name

-- the first byte of the first word, if there is one
abbrev pub first_at : List Word → Option ℕ
first_at [] = None
first_at (w ∷ ws) = Some w.at

-- the first byte of the first word; 0 if there is none
abbrev pub front_at : List Word → ℕ
front_at [] = 0
front_at (w ∷ ws) = w.at

-- the part, with the first byte of its first word
abbrev pub with_place : {X : Type 0} → Grammar Word X → Grammar Word (ℕ × X)
with_place g ts = then_read (g ts) (λ x us. read (pair (front_at ts) x) us)
