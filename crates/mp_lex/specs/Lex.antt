-- The tokens of a text, or its first lexical fault.
use Rattle.std.specs.Prelude.{◌≡◌, ℕ, zero, suc, ◌+◌, ◌-◌, ◌++◌, ◌<◌, ◌≤◌, List, [], ◌∷◌, take, drop, codes, Result, Ok, Err, Bool, true, false, get_or, nat_le, nat_eq, ◌&&◌, if◌then◌else◌}
use Rattle.std.specs.List.{prefix_len, starts_with}
use Rattle.mp_lex.specs.declared.token.Kind.{Kind}
use Rattle.mp_lex.specs.declared.token.Kind.TheVariants.{Small, Cap, SmallVar, CapVar, Num, Str, Mark}
use Rattle.mp_lex.specs.declared.token.Token.{Token}
use Rattle.mp_lex.specs.declared.token.LexWhy.{LexWhy}
use Rattle.mp_lex.specs.declared.token.LexWhy.TheVariants.{BadByte, LongName, BadNumber, BadString, TooNested}
use Rattle.mp_lex.specs.declared.token.Next.{Next}
use Rattle.mp_lex.specs.declared.token.Next.TheVariants as next
use Rattle.mp_lex.specs.declared.front.Front.{Front}
use Rattle.mp_lex.specs.declared.front.Front.TheVariants as front
use Rattle.mp_lex.specs.declared.limits.TheConstants.{MOST_OPEN}
use Rattle.mp_lex.specs.Bytes.{is_small, is_cap, is_digit, is_word_byte, is_blank, is_comment, is_opening, is_closing, is_single_mark}
use Rattle.mp_lex.specs.Forms.{is_text}

-- a token of this kind if the bytes that go together are a text of the kind, and else the fault
abbrev pub checked : Kind → LexWhy → ℕ → List ℕ → Front
checked kind why n bytes = if is_text kind (take n bytes) then front.Token kind n else front.Bad 0 why

-- whether a text begins with a byte of this class
abbrev pub begins_with : (ℕ → Bool) → List ℕ → Bool
begins_with test [] = false
begins_with test (b ∷ bs) = test b

-- how many bytes a string has after its opening quote, up to and with the closing one or to the end; the first argument says whether a
-- `\` is before them
abbrev pub string_len : Bool → List ℕ → ℕ
string_len escaped [] = 0
string_len true (b ∷ bs) = 1 + string_len false bs
string_len false (b ∷ bs) = if nat_eq b 34 then 1 else 1 + string_len (nat_eq b 92) bs

-- the length of the longest mark at the front of a text, or 0
abbrev pub mark_len : List ℕ → ℕ
mark_len [] = 0
mark_len (b ∷ bs) =
    if nat_eq b 62 then (if starts_with nat_eq bs (codes "-") then 2 else 1)
    else if nat_eq b 58 then (if starts_with nat_eq bs (codes "=") then 2 else 1)
    else if nat_eq b 60 then (if starts_with nat_eq bs (codes "->") then 3 else 1)
    else if nat_eq b 61 then (if starts_with nat_eq bs (codes "=>") then 3 else 0)
    else if nat_eq b 45 then (if starts_with nat_eq bs (codes "->") then 3 else 0)
    else (if is_single_mark b then 1 else 0)

-- a mark of this length, or a fault if it has no byte
abbrev pub mark_front : ℕ → Front
mark_front zero = front.Bad 0 BadByte
mark_front (suc n) = front.Token Mark (suc n)

-- a comment goes on to the end of its line or of the text: what comes after the bytes that it may have decides
abbrev pub ended_comment : ℕ → List ℕ → Front
ended_comment n [] = front.Passed n
ended_comment n (b ∷ bs) = if nat_eq b 10 then front.Passed (n + 1) else front.Bad n BadByte

-- what a comment is, from the bytes after its `#`
abbrev pub comment_of : List ℕ → Front
comment_of bytes = let n = prefix_len is_comment bytes in ended_comment (1 + n) (drop n bytes)

-- what stands at a `'`, with the letters, digits and `_` after it
abbrev pub variable_of : List ℕ → List ℕ → Front
variable_of bytes rest =
    if begins_with is_small rest then checked SmallVar LongName (1 + prefix_len is_word_byte rest) bytes
    else if begins_with is_cap rest then checked CapVar LongName (1 + prefix_len is_word_byte rest) bytes
    else front.Bad 0 BadByte

-- what stands at the front of a text
abbrev pub front_of : List ℕ → Front
front_of [] = front.Bad 0 BadByte
front_of (b ∷ bs) =
    if is_small b then checked Small LongName (prefix_len is_word_byte (b ∷ bs)) (b ∷ bs)
    else if is_cap b then checked Cap LongName (prefix_len is_word_byte (b ∷ bs)) (b ∷ bs)
    else if is_digit b then checked Num BadNumber (prefix_len is_digit (b ∷ bs)) (b ∷ bs)
    else if is_blank b then front.Passed 1
    else if nat_eq b 35 then comment_of bs
    else if nat_eq b 39 then variable_of (b ∷ bs) bs
    else if nat_eq b 34 then checked Str BadString (1 + string_len false bs) (b ∷ bs)
    else if nat_eq b 45 && begins_with is_digit bs then checked Num BadNumber (1 + prefix_len is_digit bs) (b ∷ bs)
    else mark_front (mark_len (b ∷ bs))

-- what is found at the front of a text takes a byte at least, and no more than so many
abbrev pub IsWithin : ℕ → Front → Type 0
IsWithin most (front.Passed len) = (0 < len) × (len ≤ most)
IsWithin most (front.Token kind len) = (0 < len) × (len ≤ most)
IsWithin most (front.Bad ahead why) = ahead ≤ most

-- the tokens of a text, or the place of its first fault and what it is; it is a function of the text, so each text has exactly one of the two
abbrev pub Lexing : Type 0
Lexing = Result (List Token) (ℕ × LexWhy)

-- a reading with these tokens before its own; a fault stays
abbrev pub with_front : List Token → Lexing → Lexing
with_front before (Ok ts) = Ok (before ++ ts)
with_front before (Err fault) = Err fault

-- how many brackets are open after a byte; a closing one where none is open changes nothing
abbrev pub depth_after : ℕ → ℕ → ℕ
depth_after depth b = if is_opening b then depth + 1 else if is_closing b then depth - 1 else depth

-- how a reading goes on after what is found at a place: from the open brackets, the place, its byte, and the reading with so many further bytes passed over
abbrev pub go_on : Front → ℕ → ℕ → ℕ → (ℕ → ℕ → Lexing) → Lexing
go_on (front.Passed len) depth at b go = go (len - 1) depth
go_on (front.Bad ahead why) depth at b go = Err (at + ahead, why)
go_on (front.Token kind len) depth at b go =
    if is_opening b && nat_le MOST_OPEN depth then Err (at, TooNested)
    else with_front (record { kind = kind; from = at; to = at + len } ∷ []) (go (len - 1) (depth_after depth b))

-- the reading from a place on: so many bytes belong to what was found before, and so many brackets are open
abbrev pub lex_from : ℕ → ℕ → ℕ → List ℕ → Lexing
lex_from skip depth at [] = Ok []
lex_from (suc k) depth at (b ∷ bs) = lex_from k depth (at + 1) bs
lex_from zero depth at (b ∷ bs) = go_on (front_of (b ∷ bs)) depth at b (λ n o. lex_from n o (at + 1) bs)

-- the reading of a whole text
abbrev pub lex : List ℕ → Lexing
lex source = lex_from 0 0 0 source

-- the tokens before what is found at a place, up to a fault: none there, or one and those behind it
abbrev pub found_on : Front → ℕ → ℕ → ℕ → (ℕ → ℕ → List Token) → List Token
found_on (front.Passed len) depth at b go = go (len - 1) depth
found_on (front.Bad ahead why) depth at b go = []
found_on (front.Token kind len) depth at b go =
    if is_opening b && nat_le MOST_OPEN depth then [] else record { kind = kind; from = at; to = at + len } ∷ go (len - 1) (depth_after depth b)

-- the tokens from a place on, up to a fault: so many bytes belong to what was found before, and so many brackets are open
abbrev pub found_from : ℕ → ℕ → ℕ → List ℕ → List Token
found_from skip depth at [] = []
found_from (suc k) depth at (b ∷ bs) = found_from k depth (at + 1) bs
found_from zero depth at (b ∷ bs) = found_on (front_of (b ∷ bs)) depth at b (λ n o. found_from n o (at + 1) bs)

-- the tokens of a text up to its first fault, or all of them
abbrev pub found : List ℕ → List Token
found source = found_from 0 0 0 source

-- the bytes of a token in its text
abbrev pub token_text : List ℕ → Token → List ℕ
token_text source t = take (t.to - t.from) (drop t.from source)

-- what comes next from a place on, where so many brackets are open: a token, and the reading goes on behind it; or the end; or a fault
abbrev pub IsNext : List ℕ → ℕ → ℕ → Next → Type 0
IsNext source at depth (next.Token t) =
    (lex_from 0 depth at (drop at source) ≡ with_front (t ∷ []) (lex_from 0 (depth_after depth (get_or source t.from 0)) t.to (drop t.to source)))
    × (found_from 0 depth at (drop at source) ≡ t ∷ found_from 0 (depth_after depth (get_or source t.from 0)) t.to (drop t.to source))
IsNext source at depth next.End = (lex_from 0 depth at (drop at source) ≡ Ok []) × (found_from 0 depth at (drop at source) ≡ [])
IsNext source at depth (next.Bad place why) = (lex_from 0 depth at (drop at source) ≡ Err (place, why)) × (found_from 0 depth at (drop at source) ≡ [])

-- what comes next has this, if it is a token
abbrev pub IfToken : Next → (Token → Type 0) → Type 0
IfToken (next.Token t) P = P t
IfToken next.End P = Unit {0}
IfToken (next.Bad at why) P = Unit {0}
