-- The texts of each kind of token.
use Rattle.std.specs.Prelude.{ℕ, ◌+◌, ◌-◌, ◌*◌, List, [], ◌∷◌, length, fold, codes, Bool, true, false, not, nat_le, nat_lt, nat_eq, ◌&&◌, ◌||◌, if◌then◌else◌}
use Rattle.std.specs.Cmp.Lexicographic.{pointwise}
use Rattle.std.specs.List.{list_all, list_any}
use Rattle.mp_lex.specs.declared.token.Kind.{Kind}
use Rattle.mp_lex.specs.declared.token.Kind.TheVariants.{Small, Cap, SmallVar, CapVar, Num, Str, Mark}
use Rattle.mp_lex.specs.declared.limits.TheConstants.{LONGEST_NAME, LONGEST_STRING}
use Rattle.mp_lex.specs.Bytes.{is_small, is_cap, is_digit, is_word_byte, is_printed}

-- a name: a letter that may begin it, then letters, digits and `_`, at most 64 bytes
abbrev pub is_name : (ℕ → Bool) → List ℕ → Bool
is_name begins [] = false
is_name begins (b ∷ bs) = begins b && list_all is_word_byte bs && nat_lt (length bs) LONGEST_NAME

-- a variable: `'` directly followed by a name
abbrev pub is_variable_text : (ℕ → Bool) → List ℕ → Bool
is_variable_text begins [] = false
is_variable_text begins (b ∷ bs) = nat_eq b 39 && is_name begins bs

-- the number that digits write
abbrev pub number_of_digits : List ℕ → ℕ
number_of_digits digits = fold (λ n d. 10 * n + (d - 48)) 0 digits

-- digits that don't begin with 0
abbrev pub is_positive : List ℕ → Bool
is_positive [] = false
is_positive (d ∷ ds) = not (nat_eq d 48) && list_all is_digit (d ∷ ds)

-- a negative number: `-`, then digits that don't begin with 0, of a value of at most `2 ^ 63`
abbrev pub is_negative : List ℕ → Bool
is_negative [] = false
is_negative (b ∷ bs) = nat_eq b 45 && is_positive bs && nat_le (number_of_digits bs) 9223372036854775808

-- a number: `0`, or an optional `-` and digits that don't begin with 0, within 64 bits with a sign
abbrev pub is_number : List ℕ → Bool
is_number bs = pointwise nat_eq (codes "0") bs || (is_positive bs && nat_lt (number_of_digits bs) 9223372036854775808) || is_negative bs

-- the rest of a string up to its closing quote: bytes 0x20 to 0x7E, in which a `\` stands before each `"` and each `\` that stands
-- for itself, and before nothing else; the first argument says whether a `\` is before the rest
abbrev pub closes : Bool → List ℕ → Bool
closes escaped [] = false
closes true (b ∷ bs) = (nat_eq b 34 || nat_eq b 92) && closes false bs
closes false (b ∷ bs) = if nat_eq b 34 then nat_eq (length bs) 0 else is_printed b && closes (nat_eq b 92) bs

-- a string: `"`, at most 256 bytes, `"`
abbrev pub is_string : List ℕ → Bool
is_string [] = false
is_string (b ∷ bs) = nat_eq b 34 && closes false bs && nat_le (length bs) (LONGEST_STRING + 1)

-- the marks of all grammars
abbrev pub mark_texts : List (List ℕ)
mark_texts =
    codes "{" ∷ codes "}" ∷ codes "[" ∷ codes "]" ∷ codes "(" ∷ codes ")" ∷ codes "<" ∷ codes ">" ∷ codes ">-" ∷ codes "==>"
    ∷ codes "-->" ∷ codes "<->" ∷ codes "&" ∷ codes "," ∷ codes ";" ∷ codes ":" ∷ codes ":=" ∷ codes "." ∷ codes "@" ∷ codes "|" ∷ []

-- whether these bytes are a mark
abbrev pub is_mark_text : List ℕ → Bool
is_mark_text bs = list_any (λ m. pointwise nat_eq m bs) mark_texts

-- whether these bytes are the whole text of a token of this kind
abbrev pub is_text : Kind → List ℕ → Bool
is_text Small bs = is_name is_small bs
is_text Cap bs = is_name is_cap bs
is_text SmallVar bs = is_variable_text is_small bs
is_text CapVar bs = is_variable_text is_cap bs
is_text Num bs = is_number bs
is_text Str bs = is_string bs
is_text Mark bs = is_mark_text bs
