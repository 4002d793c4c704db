-- What follows where a list of faults is none: so are its parts, tests failed, and numbers are in their ranges.
use Rattle.std.proofs.Common.{◌≡◌, ◌++◌, ◌≤◌, ℕ, ℤ, pos, negsuc, List, [], ◌∷◌, Option, None, Some, Bool, true, false, not, ◌&&◌, nat_le, length, slice_get, refl, sym, ◌∙◌, inl, inr}
use Rattle.std.specs.Prelude.{nat_abs}
use Rattle.std.proofs.lemmas.Option.{slice_get_cases}
use Rattle.mp_words.specs.declared.raw.RawNumber.{RawNumber}
use Rattle.mp_words.specs.declared.fail.TextWhy.{TextWhy}
use Rattle.mp_words.specs.declared.fail.TextWhy.TheVariants as why
use Rattle.mp_words.specs.Faults.{fault_if, fault_at_any, too_many}
use Rattle.mp_words.specs.Ranges.{is_between, number_faults}

-- two lists that are none together are none
pub nil_parts : {A : Type 0} (xs ys : List A) → xs ++ ys ≡ [] → (xs ≡ []) × (ys ≡ [])
nil_parts [] ys h = (refl, h)
nil_parts (x ∷ xs) ys h = absurd cc

-- a test whose fault isn't there failed
pub no_fault : (b : Bool) (l : ℕ) (w : TextWhy) → fault_if b l w ≡ [] → b ≡ false
no_fault true l w h = absurd cc
no_fault false l w h = refl

-- a number without a fault is in its range
pub number_between : (least most : ℕ) (n : RawNumber) → number_faults least most n ≡ [] → (nat_le least (nat_abs n.value) && nat_le (nat_abs n.value) most) ≡ true
number_between least most n h = absolute n.value (by (is_between least most n.value) (no_fault (not (is_between least most n.value)) n.at why.BadNumber h))
  where
    by : (b : Bool) → not b ≡ false → b ≡ true
    by true e = refl
    by false e = absurd cc

    absolute : (v : ℤ) → is_between least most v ≡ true → (nat_le least (nat_abs v) && nat_le (nat_abs v) most) ≡ true
    absolute (pos v) e = e
    absolute (negsuc v) e = absurd cc

-- where no fault is told, there is nothing to tell it of
none_at_any : {X : Type 0} (place : X → ℕ) (w : TextWhy) (o : Option X) → fault_at_any place w o ≡ [] → o ≡ None
none_at_any place w None h = refl
none_at_any place w (Some x) h = absurd cc

-- items of which none is one too many are few
pub not_many : {X : Type 0} (place : X → ℕ) (n : ℕ) (xs : List X) → too_many place n xs ≡ [] → length xs ≤ n
not_many place n xs h = elim (slice_get_cases xs n).1 as (λ c. length xs ≤ n) [ inl e ↦ absurd (let q : None ≡ Some e.0 = sym (none_at_any place why.TooMany (slice_get xs n) h) ∙ e.2 in cc) | inr e ↦ e.0 ]
