-- The first uses of names that weren't met before.
use Rattle.std.specs.Prelude.{ℕ, List, [], ◌∷◌, if◌then◌else◌}
use Rattle.mp_names.specs.Sets.{is_met, with_met}
use Rattle.mp_theory.specs.declared.rule.Need.{Need}

-- the first use of each name among these that wasn't met before
abbrev pub fresh_uses : List ℕ → List Need → List Need
fresh_uses met [] = []
fresh_uses met (u ∷ us) = if is_met met u.name.0 then fresh_uses met us else u ∷ fresh_uses (with_met met u.name.0) us

-- the numbers once the names of these are met
abbrev pub with_all : List ℕ → List Need → List ℕ
with_all met [] = met
with_all met (u ∷ us) = with_all (with_met met u.name.0) us
