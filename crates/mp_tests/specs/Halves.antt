-- The logic that halves numbers: what its steps give, and that they are those of a logic.
use Rattle.std.specs.Prelude.{◌≤◌, ◌/◌, ◌%◌, ℕ, zero, suc, List, length, replicate, Bool, true, false, if◌then◌else◌, Ok, Err, IsTrue, IfOk, nat_eq, nat_le}
use Rattle.std.specs.List.{list_all}
use Rattle.std.proofs.Common.{refl}
use Rattle.std.proofs.lemmas.Bool.{leb-true}
use Rattle.std.proofs.lemmas.List.{length-replicate}
use Rattle.mp_logic.specs.Steps.{Outcome}
use Rattle.mp_logic.specs.declared.logic.Why.TheVariants.{NoMatch}

-- the half of an even number, so many times; no step applies to an odd number
abbrev pub halved : ℕ → ℕ → Outcome ℕ
halved times number = if nat_eq (number % 2) 0 then Ok (replicate times (number / 2)) else Err NoMatch

-- a step gives what holds of its subgoals
if_even : (P : List ℕ → Type 0) (even : Bool) (kids : List ℕ) → P kids → IfOk (if even then Ok kids else Err NoMatch) P
if_even P true kids h = h
if_even P false kids h = tt

-- each number is good
all_good : (times number : ℕ) → IsTrue (list_all (λ (g : ℕ). true) (replicate times number))
all_good zero number = refl
all_good (suc times) number = all_good times number

-- each subgoal is good
pub halves_are_good : (times number : ℕ) → IfOk (halved times number) (λ kids. IsTrue (list_all (λ (g : ℕ). true) kids))
halves_are_good times number = if_even (λ kids. IsTrue (list_all (λ (g : ℕ). true) kids)) (nat_eq (number % 2) 0) (replicate times (number / 2)) (all_good times (number / 2))

-- there are no more subgoals than the justification says
pub halves_are_few : (times number : ℕ) → IsTrue (nat_le times 2) → IfOk (halved times number) (λ kids. length kids ≤ 2)
halves_are_few times number few = if_even (λ kids. length kids ≤ 2) (nat_eq (number % 2) 0) (replicate times (number / 2)) (rw (length-replicate times (number / 2)) (leb-true times 2 few))
