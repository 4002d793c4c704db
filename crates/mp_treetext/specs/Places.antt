-- Places of a text by its lines: where a line begins and ends, and how deep it stands.
use Rattle.std.specs.Prelude.{ℕ, zero, suc, ◌+◌, ◌/◌, ◌%◌, nat_eq, List, [], ◌∷◌, drop, get_or, Bool, if◌then◌else◌}

-- the first byte of the line on which this place is
abbrev pub line_start : List ℕ → ℕ → ℕ
line_start source zero = zero
line_start source (suc at) = if nat_eq (get_or source at 0) 10 then suc at else line_start source at

-- the number of bytes before the first newline
abbrev pub line_length : List ℕ → ℕ
line_length [] = 0
line_length (b ∷ bs) = if nat_eq b 10 then 0 else suc (line_length bs)

-- the newline that ends the line on which this place is, or the text's length if there is none
abbrev pub line_end : List ℕ → ℕ → ℕ
line_end source at = at + line_length (drop at source)

-- the number of spaces before the first other byte
abbrev pub spaces_in_front : List ℕ → ℕ
spaces_in_front [] = 0
spaces_in_front (b ∷ bs) = if nat_eq b 32 then suc (spaces_in_front bs) else 0

-- the number of spaces that the line of this place begins with
abbrev pub spaces_at : List ℕ → ℕ → ℕ
spaces_at source at = spaces_in_front (drop (line_start source at) source)

-- the depth of the line of this place: two spaces for each level
abbrev pub depth_at : List ℕ → ℕ → ℕ
depth_at source at = spaces_at source at / 2

-- the line of this place begins with an odd number of spaces
abbrev pub is_odd_at : List ℕ → ℕ → Bool
is_odd_at source at = nat_eq (spaces_at source at % 2) 1
