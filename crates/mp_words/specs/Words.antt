-- The words of a text: its tokens, with the numbers of their names in place of the bytes.
use Rattle.std.specs.Prelude.{ℕ, zero, suc, List, [], ◌∷◌, drop, map, codes, Option, Some, None, Bool, true, false, nat_eq, nat_lt, get_or, ◌&&◌, ◌||◌, if◌then◌else◌, ℤ, pos, negsuc}
use Rattle.mp_logic.specs.declared.sym.Sym.{Sym}
use Rattle.mp_names.specs.Table.{is_same, entered, number_of}
use Rattle.mp_lex.specs.declared.token.Kind.{Kind}
use Rattle.mp_lex.specs.declared.token.Kind.TheVariants as kind
use Rattle.mp_lex.specs.declared.token.Token.{Token}
use Rattle.mp_lex.specs.Bytes.{is_blank}
use Rattle.mp_lex.specs.Forms.{is_positive, number_of_digits}
use Rattle.mp_lex.specs.Lex.{token_text}
use Rattle.mp_words.specs.declared.word.Mark.{Mark}
use Rattle.mp_words.specs.declared.word.Mark.TheVariants as mark
use Rattle.mp_words.specs.declared.word.Keyword.{Keyword}
use Rattle.mp_words.specs.declared.word.Keyword.TheVariants as keyword
use Rattle.mp_words.specs.declared.spelling.Spelling.{Spelling}
use Rattle.mp_words.specs.declared.word.What.{What}
use Rattle.mp_words.specs.declared.word.What.TheVariants as what
use Rattle.mp_words.specs.declared.word.Word.{Word}

-- the kind of a token and its text
pub record Piece : Type 0 where
  pub kind : Kind
  pub text : List ℕ

-- what a token is in its source
abbrev pub piece_of : List ℕ → Token → Piece
piece_of source t = record { kind = t.kind; text = token_text source t }

-- what the tokens are in their source
abbrev pub pieces_of : List ℕ → List Token → List Piece
pieces_of source ts = map (piece_of source) ts

-- what stands beside this text in a list of spellings
abbrev pub spelled : {A : Type 0} → List (List ℕ × A) → List ℕ → Option A
spelled [] text = None
spelled ((spelling, a) ∷ more) text = if is_same text spelling then Some a else spelled more text

-- a row of the table that is searched, as a spelling and what it spells
abbrev pub row_of : Spelling → List ℕ × Keyword
row_of s = (s.0.now, s.1)

-- the names that some grammar reads as words of its own
abbrev pub keywords : List (List ℕ × Keyword)
keywords =
    (codes "rule", keyword.Rule)
    ∷ (codes "rewrite", keyword.Rewrite)
    ∷ (codes "goal", keyword.Goal)
    ∷ (codes "fuel", keyword.Fuel)
    ∷ (codes "by", keyword.By)
    ∷ (codes "then", keyword.Then)
    ∷ (codes "thenl", keyword.ThenL)
    ∷ (codes "orelse", keyword.OrElse)
    ∷ (codes "try", keyword.Try)
    ∷ (codes "repeat", keyword.Repeat)
    ∷ (codes "progress", keyword.Progress)
    ∷ (codes "complete", keyword.Complete)
    ∷ (codes "race", keyword.Race)
    ∷ (codes "fail", keyword.Fail)
    ∷ (codes "id", keyword.Id)
    ∷ (codes "rw", keyword.Rw)
    ∷ (codes "concl", keyword.Concl)
    ∷ (codes "hyp", keyword.Hyp)
    ∷ (codes "at", keyword.At)
    ∷ (codes "with", keyword.With)
    ∷ (codes "closed", keyword.Closed)
    ∷ (codes "open", keyword.Open)
    ∷ (codes "failed", keyword.Failed)
    ∷ (codes "strategy", keyword.Strategy)
    ∷ (codes "claim", keyword.Claim)
    ∷ (codes "send", keyword.Send)
    ∷ (codes "again", keyword.Again)
    ∷ (codes "die", keyword.Die)
    ∷ (codes "lose", keyword.Lose)
    ∷ (codes "reissue", keyword.Reissue)
    ∷ []

-- the word of a grammar that a name spells
abbrev pub keyword_of : List ℕ → Option Keyword
keyword_of text = spelled keywords text

-- the marks but the bar
abbrev pub other_marks : List (List ℕ × Mark)
other_marks =
    (codes "{", mark.OpenBrace) ∷ (codes "}", mark.CloseBrace) ∷ (codes "[", mark.OpenBracket) ∷ (codes "]", mark.CloseBracket)
    ∷ (codes "(", mark.OpenParenthesis) ∷ (codes ")", mark.CloseParenthesis) ∷ (codes "<", mark.Less) ∷ (codes ">", mark.Greater)
    ∷ (codes ">-", mark.Turnstile) ∷ (codes "==>", mark.Yields) ∷ (codes "-->", mark.Provided) ∷ (codes "<->", mark.Rewrites)
    ∷ (codes "&", mark.And) ∷ (codes ",", mark.Comma) ∷ (codes ";", mark.Semicolon) ∷ (codes ":", mark.Colon)
    ∷ (codes ":=", mark.Becomes) ∷ (codes ".", mark.Dot) ∷ (codes "@", mark.At) ∷ []

-- the mark, or the bar if there is none
abbrev pub or_bar : Option Mark → Mark
or_bar None = mark.Bar
or_bar (Some m) = m

-- the mark that a text spells; a mark that is none of the others is the bar
abbrev pub mark_of : List ℕ → Mark
mark_of text = or_bar (spelled other_marks text)

-- the number with `-` before it
abbrev pub minus : ℕ → ℤ
minus zero = pos 0
minus (suc n) = negsuc n

-- the number that digits write, with `-` before them or not
abbrev pub integer_of : List ℕ → ℤ
integer_of [] = pos 0
integer_of (b ∷ bs) = if nat_eq b 45 then minus (number_of_digits bs) else pos (number_of_digits (b ∷ bs))

-- what the bytes up to the closing quote stand for: a byte after a `\` is itself; the first argument says whether a `\` is before
abbrev pub unescaped : Bool → List ℕ → List ℕ
unescaped escaped [] = []
unescaped true (b ∷ bs) = b ∷ unescaped false bs
unescaped false (b ∷ bs) = if nat_eq b 34 then [] else if nat_eq b 92 then unescaped true bs else b ∷ unescaped false bs

-- the content of a string, whose opening quote is its first byte
abbrev pub content_of : List ℕ → List ℕ
content_of text = unescaped false (drop 1 text)

-- `k` for a name that is `x` followed by `k` in decimal, which is at least 1, has no leading zero and fits 32 bits
abbrev pub numbered_of : List ℕ → Option ℕ
numbered_of [] = None
numbered_of (b ∷ bs) = if nat_eq b 120 && is_positive bs && nat_lt (number_of_digits bs) 4294967296 then Some (number_of_digits bs) else None

-- the name that a token of this kind enters: a variable's without its quote, and a string's content
abbrev pub name_of : Kind → List ℕ → Option (List ℕ)
name_of kind.Small text = Some text
name_of kind.Cap text = Some text
name_of kind.SmallVar text = Some (drop 1 text)
name_of kind.CapVar text = Some (drop 1 text)
name_of kind.Num text = None
name_of kind.Str text = Some (content_of text)
name_of kind.Mark text = None

-- the table of names with this name, if there is one
abbrev pub entered_if : List (List ℕ) → Option (List ℕ) → List (List ℕ)
entered_if names None = names
entered_if names (Some name) = entered names name

-- the table of names after a piece
abbrev pub names_with : List (List ℕ) → Piece → List (List ℕ)
names_with names p = entered_if names (name_of p.kind p.text)

-- the number that the name has once it is entered
abbrev pub sym_of : List (List ℕ) → List ℕ → Sym
sym_of names name = record { 0 = number_of names name }

-- what a token of this kind is, by the table of names before it
abbrev pub what_in : List (List ℕ) → Kind → List ℕ → What
what_in names kind.Small text = what.Small (sym_of names text) (keyword_of text)
what_in names kind.Cap text = what.Cap (sym_of names text)
what_in names kind.SmallVar text = what.SmallVar (sym_of names (drop 1 text)) (numbered_of (drop 1 text))
what_in names kind.CapVar text = what.CapVar (sym_of names (drop 1 text))
what_in names kind.Num text = what.Num (integer_of text)
what_in names kind.Str text = what.Str (sym_of names (content_of text))
what_in names kind.Mark text = what.Mark (mark_of text)

-- what a piece is, by the table of names before it
abbrev pub what_of : List (List ℕ) → Piece → What
what_of names p = what_in names p.kind p.text

-- what pieces are, from left to right, each by the table that those before it leave
abbrev pub whats_of : List (List ℕ) → List Piece → List What
whats_of names [] = []
whats_of names (p ∷ ps) = what_of names p ∷ whats_of (names_with names p) ps

-- the table of names that pieces leave
abbrev pub names_after : List (List ℕ) → List Piece → List (List ℕ)
names_after names [] = names
names_after names (p ∷ ps) = names_after (names_with names p) ps

-- the byte is a newline, or it is a separator before which only separators stand on its line
abbrev pub leads_line : ℕ → Bool → Bool
leads_line b before = nat_eq b 10 || (is_blank b && before)

-- no token stands before this place on its line
abbrev pub opens_line : List ℕ → ℕ → Bool
opens_line source zero = true
opens_line source (suc at) = leads_line (get_or source at 0) (opens_line source at)

-- the word of a token, by the table of names before it
abbrev pub word_of : List (List ℕ) → List ℕ → Token → Word
word_of names source t = record { at = t.from; opens_line = opens_line source t.from; what = what_of names (piece_of source t) }

-- the words of a text with these tokens, from left to right, each by the table of names that those before it leave
abbrev pub words_in : List (List ℕ) → List ℕ → List Token → List Word
words_in names source [] = []
words_in names source (t ∷ ts) = word_of names source t ∷ words_in (names_with names (piece_of source t)) source ts
