-- The classes of bytes.
use Rattle.std.specs.Prelude.{ℕ, Bool, nat_le, nat_eq, ◌&&◌, ◌||◌}

-- a letter a to z
abbrev pub is_small : ℕ → Bool
is_small b = nat_le 97 b && nat_le b 122

-- a letter A to Z
abbrev pub is_cap : ℕ → Bool
is_cap b = nat_le 65 b && nat_le b 90

-- a digit
abbrev pub is_digit : ℕ → Bool
is_digit b = nat_le 48 b && nat_le b 57

-- a letter, a digit or `_`
abbrev pub is_word_byte : ℕ → Bool
is_word_byte b = is_small b || is_cap b || is_digit b || nat_eq b 95

-- a space, a tab, a newline or a carriage return
abbrev pub is_blank : ℕ → Bool
is_blank b = nat_eq b 32 || nat_eq b 9 || nat_eq b 10 || nat_eq b 13

-- 0x20 to 0x7E
abbrev pub is_printed : ℕ → Bool
is_printed b = nat_le 32 b && nat_le b 126

-- what a comment may have: 0x20 to 0x7E, a tab or a carriage return
abbrev pub is_comment : ℕ → Bool
is_comment b = is_printed b || nat_eq b 9 || nat_eq b 13

-- `(`, `[` or `{`
abbrev pub is_opening : ℕ → Bool
is_opening b = nat_eq b 40 || nat_eq b 91 || nat_eq b 123

-- `)`, `]` or `}`
abbrev pub is_closing : ℕ → Bool
is_closing b = nat_eq b 41 || nat_eq b 93 || nat_eq b 125

-- a mark by itself that no longer mark begins with: a bracket, `&`, `,`, `;`, `.`, `@` or the bar
abbrev pub is_single_mark : ℕ → Bool
is_single_mark b = is_opening b || is_closing b || nat_eq b 38 || nat_eq b 44 || nat_eq b 59 || nat_eq b 46 || nat_eq b 64 || nat_eq b 124
