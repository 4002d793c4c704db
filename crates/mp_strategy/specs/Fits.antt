-- When a table of strategies fits.
use Rattle.std.specs.Prelude.{ℕ, zero, suc, ◌+◌, ◌-◌, Bool, true, false, not, ◌&&◌, nat_lt, nat_le, List, [], ◌∷◌, length, map, slice_index}
use Rattle.std.specs.List.{list_all}
use Rattle.mp_strategy.specs.declared.limits.TheConstants.{MOST_BRANCHES, MOST_DEPTH, MOST_NODES, MOST_REPEATS}
use Rattle.mp_strategy.specs.declared.tactic.Tac.{Tac}
use Rattle.mp_strategy.specs.declared.tactic.Tac.TheVariants as tac
use Rattle.mp_strategy.specs.declared.tactic.TacId.{TacId}
use Rattle.mp_logic.specs.Lists.{greatest}

-- the places of strategies
abbrev pub places : List TacId → List ℕ
places [] = []
places (b ∷ bs) = b.0 ∷ places bs

-- the strategies that a strategy names
abbrev pub parts_of : Tac → List ℕ
parts_of tac.Id = []
parts_of tac.Fail = []
parts_of (tac.Step j) = []
parts_of (tac.Then a b) = a.0 ∷ b.0 ∷ []
parts_of (tac.ThenL a bs) = a.0 ∷ places bs
parts_of (tac.Else a b) = a.0 ∷ b.0 ∷ []
parts_of (tac.Race bs) = places bs
parts_of (tac.Repeat n a) = a.0 ∷ []
parts_of (tac.Progress a) = a.0 ∷ []
parts_of (tac.Complete a) = a.0 ∷ []

-- the justifications that a strategy names
abbrev pub justs_of : Tac → List ℕ
justs_of tac.Id = []
justs_of tac.Fail = []
justs_of (tac.Step j) = j.0 ∷ []
justs_of (tac.Then a b) = []
justs_of (tac.ThenL a bs) = []
justs_of (tac.Else a b) = []
justs_of (tac.Race bs) = []
justs_of (tac.Repeat n a) = []
justs_of (tac.Progress a) = []
justs_of (tac.Complete a) = []

-- whether a strategy's counts are within the limits: a race has 1 to 8 branches, and a repeat repeats at most 400 times
abbrev pub counts_fit : Tac → Bool
counts_fit tac.Id = true
counts_fit tac.Fail = true
counts_fit (tac.Step j) = true
counts_fit (tac.Then a b) = true
counts_fit (tac.ThenL a bs) = true
counts_fit (tac.Else a b) = true
counts_fit (tac.Race bs) = nat_lt 0 (length bs) && nat_le (length bs) MOST_BRANCHES
counts_fit (tac.Repeat n a) = nat_le n MOST_REPEATS
counts_fit (tac.Progress a) = true
counts_fit (tac.Complete a) = true

-- whether a strategy is a race
abbrev pub is_race : Tac → Bool
is_race tac.Id = false
is_race tac.Fail = false
is_race (tac.Step j) = false
is_race (tac.Then a b) = false
is_race (tac.ThenL a bs) = false
is_race (tac.Else a b) = false
is_race (tac.Race bs) = true
is_race (tac.Repeat n a) = false
is_race (tac.Progress a) = false
is_race (tac.Complete a) = false

-- the place comes after this one, in a table of so many entries
abbrev pub is_behind : ℕ → ℕ → ℕ → Bool
is_behind here count place = nat_lt here place && nat_lt place count

-- the parts of an entry have greater numbers and are in the table, its justifications are in range, and its counts are within the limits
abbrev pub row_fits : ℕ → ℕ → ℕ → Tac → Bool
row_fits justs here count t = list_all (is_behind here count) (parts_of t) && (list_all (λ just. nat_lt just justs) (justs_of t) && counts_fit t)

-- each entry of a list fits; here is the place of the first one
abbrev pub rows_fit : ℕ → ℕ → List Tac → Bool
rows_fit justs here [] = true
rows_fit justs here (t ∷ ts) = row_fits justs here (here + 1 + length ts) t && rows_fit justs (here + 1) ts

-- one more than the greatest depth of the parts, by the depths of the entries after it: a strategy without parts has depth 1
abbrev pub depth_by : ℕ → List ℕ → Tac → ℕ
depth_by here behind t = 1 + greatest (map (λ place. slice_index behind (place - (here + 1))) (parts_of t))

-- the depth of each entry; here is the place of the first one
abbrev pub depths : ℕ → List Tac → List ℕ
depths here [] = []
depths here (t ∷ ts) = depth_by here (depths (here + 1) ts) t ∷ depths (here + 1) ts

-- the table has 1 to 4,096 entries, each of them fits, and none is deeper than 64
abbrev pub fits_of : ℕ → List Tac → Bool
fits_of justs tacs =
    nat_lt 0 (length tacs) && (nat_le (length tacs) MOST_NODES && (rows_fit justs 0 tacs && list_all (λ depth. nat_le depth MOST_DEPTH) (depths 0 tacs)))

-- whether no race can be reached from the entry at a place of the table; here is the place of the first entry in the list
abbrev pub no_race_in : ℕ → List Tac → ℕ → Bool
no_race_in here [] at = true
no_race_in here (t ∷ ts) zero = not (is_race t) && list_all (λ c. no_race_in (here + 1) ts (c - (here + 1))) (parts_of t)
no_race_in here (t ∷ ts) (suc at) = no_race_in (here + 1) ts at
