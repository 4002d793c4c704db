-- What the static rules on rewrites as they are written have to do with those on the rewrites that they stand for, and what is read onto theories.
use Rattle.std.specs.Prelude.{◌≡◌, ◌↔◌, ℕ, List, [], None, Ok}
use Rattle.mp_schema.specs.Faults.{rewrite_fault_of}
use Rattle.mp_theory.specs.Tables.{IsTheory, Laws}
use Rattle.mp_patterntext.specs.Unbound.{NoneUnbound}
use Rattle.mp_theorytext.specs.declared.raw.RawRewrite.{RawRewrite}
use Rattle.mp_theorytext.specs.Reading.{ReadsTheory}
use Rattle.mp_theorytext.specs.Statics.{rewrite_faults}
use Rattle.mp_theorytext.specs.Values.{conditions_of, contractum_of, redex_of}

-- a rewrite as it is written, whose variables are bound, has no fault exactly if the rewrite that it stands for has none; an
-- unbound variable has no level, so what it would stand for doesn't show it
abbrev pub OneSetOfRewrites : Type 0
OneSetOfRewrites = (r : RawRewrite) → NoneUnbound (rewrite_faults r) → (rewrite_faults r ≡ []) ↔ (rewrite_fault_of (conditions_of r) (redex_of r) (contractum_of r) ≡ None)

-- what is read onto a theory is a theory
abbrev pub ReadTheoriesAreTheories : Type 0
ReadTheoriesAreTheories = (t u : Laws) (names later : List (List ℕ)) (source : List ℕ) → IsTheory t → ReadsTheory t names source (Ok u) later → IsTheory u
