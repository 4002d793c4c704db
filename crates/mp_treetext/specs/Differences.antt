-- The first place at which a text differs from the one that is wanted.
use Rattle.std.specs.Prelude.{ℕ, ◌+◌, nat_eq, List, [], ◌∷◌, Option, None, Some, if◌then◌else◌}
use Rattle.mp_words.specs.declared.fail.TextErr.{TextErr}
use Rattle.mp_words.specs.declared.fail.TextWhy.TheVariants as why
use Rattle.mp_words.specs.Faults.{fault}

-- the first place at which two texts differ, where they begin at this one: that of the first byte that isn't the same in both, or the end of the
-- shorter one
abbrev pub difference : ℕ → List ℕ → List ℕ → Option ℕ
difference at [] [] = None
difference at (x ∷ xs) [] = Some at
difference at [] (y ∷ ys) = Some at
difference at (x ∷ xs) (y ∷ ys) = if nat_eq x y then difference (at + 1) xs ys else Some at

-- the fault of a text that differs there
abbrev pub differing : Option ℕ → List TextErr
differing None = []
differing (Some at) = fault at why.NotCanonical

-- the fault of a text that isn't the one that is wanted
abbrev pub difference_faults : List ℕ → List ℕ → List TextErr
difference_faults source wanted = differing (difference 0 source wanted)
