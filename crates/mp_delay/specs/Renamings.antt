-- The moves of levels that a list of levels stands for, forth and back.
use Rattle.std.specs.Prelude.{ℕ, ◌+◌, ◌-◌, List, nat_lt, nat_eq, if◌then◌else◌, length}
use Rattle.std.specs.List.{slice_index_or, position_or_len}

-- the levels of the list, one for each of the first levels, followed by those from m on
abbrev pub listed : List ℕ → ℕ → ℕ → ℕ
listed levels m i = if nat_lt i (length levels) then slice_index_or levels i 0 else m + (i - length levels)

-- the place of a level below n in the list; the levels from n on follow the list
abbrev pub placed : List ℕ → ℕ → ℕ → ℕ
placed levels n i = if nat_lt i n then position_or_len (λ x. nat_eq x i) levels else length levels + (i - n)
