-- Names that are met one after the other, by their numbers.
use Rattle.std.specs.Prelude.{◌≡◌, ℕ, List, [], ◌∷◌, map}
use Rattle.mp_names.specs.Sets.{with_met}
use Rattle.mp_theory.specs.declared.rule.Need.{Need}
use Rattle.mp_steptext.specs.declared.raw.RawGiven.{RawGiven}

-- the list once each of these numbers is met, from left to right
abbrev pub all_met : List ℕ → List ℕ → List ℕ
all_met met [] = met
all_met met (n ∷ ns) = all_met (with_met met n) ns

-- each of these numbers is new where it is met
abbrev pub AreNew : List ℕ → Type 0
AreNew ns = all_met [] ns ≡ ns

-- the names of needs
abbrev pub need_numbers : List Need → List ℕ
need_numbers = map (λ n. n.name.0)

-- the names of what is given
abbrev pub given_numbers : {R : Type 0} → List (RawGiven R) → List ℕ
given_numbers = map (λ g. g.name.name.0)
