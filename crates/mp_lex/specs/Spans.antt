-- What the tokens of a text are like, and the place of its fault.
use Rattle.std.specs.Prelude.{◌≡◌, ℕ, ◌-◌, ◌<◌, ◌≤◌, List, [], ◌∷◌, length, take, drop, slice_get, Some, IsOk, Ok, Err, Bool, true, false, not, nat_eq, ◌&&◌, ◌||◌, if◌then◌else◌, IsTrue}
use Rattle.mp_lex.specs.declared.token.Kind.{Kind}
use Rattle.mp_lex.specs.declared.token.Token.{Token}
use Rattle.mp_lex.specs.declared.token.LexWhy.{LexWhy}
use Rattle.mp_lex.specs.Bytes.{is_blank, is_comment}
use Rattle.mp_lex.specs.Forms.{is_text}
use Rattle.mp_lex.specs.Lex.{found, lex, token_text}

-- each token of a list has this
abbrev pub EachToken : (Token → Type 0) → List Token → Type 0
EachToken P ts = (i : ℕ) (t : Token) → slice_get ts i ≡ Some t → P t

-- a token has a byte at least, and lies within the text
pub record IsSpan (source : List ℕ) (t : Token) : Type 0 where
  pub some : t.from < t.to
  pub within : t.to ≤ length source

-- a token's text is of its kind
abbrev pub HasItsKind : List ℕ → Token → Type 0
HasItsKind source t = IsTrue (is_text t.kind (token_text source t))

-- no longer token of any kind begins at the token's place
abbrev pub IsLongest : List ℕ → Token → Type 0
IsLongest source t = (kind : Kind) (n : ℕ) → t.to - t.from < n → n ≤ length (drop t.from source) → is_text kind (take n (drop t.from source)) ≡ false

-- the tokens of a list are in order: each ends before later ones begin
abbrev pub InOrder : List Token → Type 0
InOrder ts = (i j : ℕ) (s t : Token) → i < j → slice_get ts i ≡ Some s → slice_get ts j ≡ Some t → s.to ≤ t.from

-- bytes are separators and comments only, and `commented` says whether they begin in a comment; a comment is closed by its newline or, if
-- `last` says that the text ends there, by the end
abbrev pub only_separators : Bool → Bool → List ℕ → Bool
only_separators last commented [] = last || not commented
only_separators last true (b ∷ bs) = if nat_eq b 10 then only_separators last false bs else is_comment b && only_separators last true bs
only_separators last false (b ∷ bs) = if nat_eq b 35 then only_separators last true bs else is_blank b && only_separators last false bs

-- from this place on, only separators and comments stand before, between and after the tokens
abbrev pub AreSeparated : List ℕ → ℕ → List Token → Type 0
AreSeparated source from [] = IsTrue (only_separators true false (drop from source))
AreSeparated source from (t ∷ ts) = IsTrue (only_separators false false (take (t.from - from) (drop from source))) × AreSeparated source t.to ts

-- what the tokens of a text are like: each lies within it, is of its kind and the longest there; they are in order, with separators and comments between them alone, and no more than the bytes
pub record AreTokens (source : List ℕ) (ts : List Token) : Type 0 where
  pub spans : EachToken (IsSpan source) ts
  pub kinds : EachToken (HasItsKind source) ts
  pub longest : EachToken (IsLongest source) ts
  pub order : InOrder ts
  pub between : AreSeparated source 0 ts
  pub few : length ts ≤ length source

-- what the reading of a text is like
abbrev pub TokensAre : Type 0
TokensAre = (source : List ℕ) (ts : List Token) → lex source ≡ Ok ts → AreTokens source ts

-- a fault is the first one of its text: what stands before its place has none
abbrev pub FaultIsFirst : Type 0
FaultIsFirst = (source : List ℕ) (at : ℕ) (why : LexWhy) → lex source ≡ Err (at, why) → (at ≤ length source) × IsOk (lex (take at source))

-- the tokens of a text without a fault are those that are found in it
abbrev pub AllAreFound : Type 0
AllAreFound = (source : List ℕ) (ts : List Token) → lex source ≡ Ok ts → found source ≡ ts
