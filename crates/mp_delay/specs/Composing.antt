-- Moves and then moves as one list, and a list without the moves that change nothing.
use Rattle.std.specs.Prelude.{ℕ, ◌+◌, ◌-◌, Option, Some, None, ◌++◌, List, [], ◌∷◌, nat_lt, nat_le, nat_eq, if◌then◌else◌, Bool, true, ◌&&◌}
use Rattle.mp_delay.specs.declared.moves.Move.{Move}
use Rattle.mp_delay.specs.Moves.{moved}

-- the level is before the end, if there is one
abbrev pub is_before : ℕ → Option ℕ → Bool
is_before i None = true
is_before i (Some end) = nat_lt i end

-- the moves of `ns` that begin within the run that takes `from` on to `to` on and ends before `end`: each begins at the level that the run takes there
abbrev pub within : ℕ → ℕ → Option ℕ → List Move → List Move
within from to end [] = []
within from to end (n ∷ ns) = if nat_lt to n.from && is_before (from + (n.from - to)) end
    then record { from = from + (n.from - to); to = n.to } ∷ within from to end ns else within from to end ns

-- the run that takes `from` on to `to` on, each level moved again by `ns`
abbrev pub run : ℕ → ℕ → Option ℕ → List Move → List Move
run from to end ns = record { from = from; to = moved ns to } ∷ within from to end ns

-- first the moves after `from`, which goes to `to`, and then `ns`
abbrev pub composed_after : ℕ → ℕ → List Move → List Move → List Move
composed_after from to [] ns = run from to None ns
composed_after from to (m ∷ ms) ns = run from to (Some m.from) ns ++ composed_after m.from m.to ms ns

-- the moves `ms` and then `ns`, as one list
abbrev pub composed : List Move → List Move → List Move
composed ms ns = composed_after 0 0 ms ns

-- the moves begin at this level or later
abbrev pub starts_late : ℕ → List Move → Bool
starts_late x [] = true
starts_late x (n ∷ ns) = nat_le x n.from

-- the move before takes `from` to `to`, this one goes on like it, and no other begins before it
abbrev pub goes_on : ℕ → ℕ → Move → List Move → Bool
goes_on from to m ms = nat_eq m.to (to + (m.from - from)) && nat_le from m.from && starts_late m.from ms

-- the moves after `from`, which goes to `to`, without those that go on like the one before
abbrev pub tidy_after : ℕ → ℕ → List Move → List Move
tidy_after from to [] = []
tidy_after from to (m ∷ ms) = if goes_on from to m ms then tidy_after from to ms else m ∷ tidy_after m.from m.to ms

-- the moves without those that go on like the one before
abbrev pub tidied : List Move → List Move
tidied ms = tidy_after 0 0 ms
