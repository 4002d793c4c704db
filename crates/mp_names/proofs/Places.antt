-- Where numbers that were met stand, in lists of what has them.
use Rattle.std.proofs.Common.{◌≡◌, ℕ, List, [], ◌∷◌, map, length, slice_get, cond, nat_lt, Some, None, Bool, true, false, nat_eq, refl, ap, ◌∙◌, arith, ◌||◌}
use Rattle.std.specs.List.{find, position_or_len}
use Rattle.std.specs.Option.{is_some, option_and_then}
use Rattle.std.proofs.lemmas.Bool.{ltb-false}
use Rattle.std.proofs.lemmas.Bool.Decides.{nat_tests}
use Rattle.std.proofs.lemmas.Grind.{common_steps}
use Rattle.std.proofs.lemmas.List.{length-map}
use Rattle.std.proofs.lemmas.List.Folds.{find_at}
use Rattle.std.proofs.lemmas.Option.{slice_get_past}
use Rattle.mp_names.specs.Sets.{is_met, place_of}
use Rattle.mp_names.proofs.Meeting.{eq_comm}

module _ {A : Type 0} (number : A → ℕ) where
  same_place : (items : List A) (n : ℕ) → position_or_len (λ a. nat_eq (number a) n) items ≡ position_or_len (nat_eq n) (map number items)
  same_place [] n = refl
  same_place (a ∷ items) n = by (nat_eq n (number a)) refl (eq_comm (number a) n) (same_place items n)
    where
      by : (b : Bool) → nat_eq n (number a) ≡ b → nat_eq (number a) n ≡ nat_eq n (number a) → position_or_len (λ a. nat_eq (number a) n) items ≡ position_or_len (nat_eq n) (map number items) → position_or_len (λ a. nat_eq (number a) n) (a ∷ items) ≡ position_or_len (nat_eq n) (map number (a ∷ items))
      by true e c r = rw c (rw e refl)
      by false e c r = rw c (rw e (rw r refl))

  -- the first item with a number stands at the number's place
  pub found_at : (items : List A) (n : ℕ) → find (λ a. nat_eq (number a) n) items ≡ option_and_then (slice_get items) (place_of (map number items) n)
  found_at items n = find_at (λ a. nat_eq (number a) n) items ∙ ap (slice_get items) (same_place items n) ∙ by (nat_lt k (length (map number items))) refl
    where
      k : ℕ
      k = position_or_len (nat_eq n) (map number items)

      by : (b : Bool) → nat_lt k (length (map number items)) ≡ b → slice_get items k ≡ option_and_then (slice_get items) (cond b (Some k) None)
      by true e = refl
      by false e = let l = length-map items number in let f = ltb-false k (length (map number items)) e in slice_get_past items k (omega (arith, f, l))

first_within : (met : List ℕ) (n : ℕ) → nat_lt (position_or_len (nat_eq n) met) (length met) ≡ is_met met n
first_within [] n = refl
first_within (m ∷ met) n = by (nat_eq n m) refl (first_within met n)
  where
    by : (b : Bool) → nat_eq n m ≡ b → nat_lt (position_or_len (nat_eq n) met) (length met) ≡ is_met met n → nat_lt (position_or_len (nat_eq n) (m ∷ met)) (length (m ∷ met)) ≡ (b || is_met met n)
    by true e r = rw e (grind (arith, nat_tests, common_steps))
    by false e r = rw e (grind (r, arith, nat_tests, common_steps))

-- a number has a place exactly where it was met
pub placed_met : (met : List ℕ) (n : ℕ) → is_some (place_of met n) ≡ is_met met n
placed_met met n = by (nat_lt (position_or_len (nat_eq n) met) (length met)) ∙ first_within met n
  where
    by : (b : Bool) → is_some (cond b (Some (position_or_len (nat_eq n) met)) None) ≡ b
    by true = refl
    by false = refl
