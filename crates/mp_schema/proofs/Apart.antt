-- Lists of distinct numbers below a bound, by their places.
use Rattle.std.proofs.Common.{◌≡◌, ◌≢◌, ℕ, ◌+◌, ◌-◌, ◌<◌, ◌≤◌, List, [], ◌∷◌, ◌++◌, length, map, get_or, nat_eq, true, false, not, All, inl, inr, refl, sym, ap, ◌∙◌, arith}
use Rattle.std.specs.List.{IsDistinct, AllByRecursion}
use Rattle.std.proofs.lemmas.Bool.{cases_lt}
use Rattle.std.proofs.lemmas.Bool.Decides.{nat_tests}
use Rattle.std.proofs.lemmas.Map.Keys.{apart_from_distinct, IsDistinct-from_apart}
use Rattle.std.proofs.lemmas.List.{length-append, length-map, get_or-map, get_or_append_left, get_or-append_right, get_or_default}
use Rattle.mp_term.specs.Subst.{upto}
use Rattle.mp_schema.specs.Conditions.{apart_from, all_apart}
use Rattle.mp_schema.proofs.Agreeing.{and_both}
use Rattle.mp_term.proofs.Ranges.{length-upto, get_or-upto}

-- no number is in the list twice
abbrev pub Apart : List ℕ → Type 0
Apart xs = (i j : ℕ) → i < j → j < length xs → get_or xs i 0 ≢ get_or xs j 0

-- no number is in both lists
abbrev pub Differ : List ℕ → List ℕ → Type 0
Differ xs ys = (i j : ℕ) → i < length xs → j < length ys → get_or xs i 0 ≢ get_or ys j 0

abbrev pub Below : ℕ → List ℕ → Type 0
Below n xs = (i : ℕ) → i < length xs → get_or xs i 0 < n

pub Apart-from : (xs : List ℕ) → IsDistinct nat_eq xs → Apart xs
Apart-from xs h i j lt inside = let e = apart_from_distinct nat_eq xs i j 0 h lt inside in λ same. absurd (grind (arith, nat_tests, e, same))

pub Apart-to : (xs : List ℕ) → Apart xs → IsDistinct nat_eq xs
Apart-to xs h = IsDistinct-from_apart nat_eq xs (λ i j d lt inside.
    let k = h i j lt inside in
    let e1 = get_or_default xs i d 0 (omega arith) in
    let e2 = get_or_default xs j d 0 inside in
    rw (e1, e2) (grind (arith, nat_tests, k)))

pub Below-from : (n : ℕ) (xs : List ℕ) → All (λ l. l < n) xs → Below n xs
Below-from n xs h i lt = h i 0 lt

pub Below-to : (n : ℕ) (xs : List ℕ) → Below n xs → All (λ l. l < n) xs
Below-to n xs h i d lt = rw (get_or_default xs i d 0 lt) (h i lt)

left : (xs ys : List ℕ) (i : ℕ) → i < length xs → get_or (xs ++ ys) i 0 ≡ get_or xs i 0
left xs ys i lt = get_or_append_left xs ys 0 i lt

right : (xs ys : List ℕ) (i : ℕ) → length xs ≤ i → get_or (xs ++ ys) i 0 ≡ get_or ys (i - length xs) 0
right xs ys i le = get_or-append_right xs ys (length xs) i 0 refl le

right-at : (xs ys : List ℕ) (i : ℕ) → get_or (xs ++ ys) (length xs + i) 0 ≡ get_or ys i 0
right-at xs ys i = let e : length xs + i - length xs ≡ i = omega arith in right xs ys (length xs + i) (omega arith) ∙ ap (λ k. get_or ys k 0) e

module _ (xs ys : List ℕ) where
  long : length (xs ++ ys) ≡ length xs + length ys
  long = length-append xs ys

  pub Apart-append : Apart xs → Apart ys → Differ xs ys → Apart (xs ++ ys)
  Apart-append hx hy d i j lt inside =
      let l = long in
      elim (cases_lt j (length xs)) [
        | inl low ↦ rw (left xs ys i (omega arith), left xs ys j low) (hx i j lt low)
        | inr high ↦ elim (cases_lt i (length xs)) [
          | inl low ↦ rw (left xs ys i low, right xs ys j high) (d i (j - length xs) low (omega arith))
          | inr above ↦ rw (right xs ys i above, right xs ys j high) (hy (i - length xs) (j - length xs) (omega arith) (omega arith))
        ]
      ]

  pub Apart-left : Apart (xs ++ ys) → Apart xs
  Apart-left h i j lt inside = let l = long in rw (left xs ys i (omega arith), left xs ys j inside) at (h i j lt (omega arith))

  pub Apart-right : Apart (xs ++ ys) → Apart ys
  Apart-right h i j lt inside =
      let l = long in rw (right-at xs ys i, right-at xs ys j) at (h (length xs + i) (length xs + j) (omega arith) (omega arith))

  pub Apart-differ : Apart (xs ++ ys) → Differ xs ys
  Apart-differ h i j lt inside = let l = long in rw (left xs ys i lt, right-at xs ys j) at (h i (length xs + j) (omega arith) (omega arith))

  pub Below-append : (n : ℕ) → Below n xs → Below n ys → Below n (xs ++ ys)
  Below-append n hx hy i lt =
      let l = long in
      elim (cases_lt i (length xs)) [
        | inl low ↦ rw (left xs ys i low) (hx i low)
        | inr high ↦ rw (right xs ys i high) (hy (i - length xs) (omega arith))
      ]

  pub Below-left : (n : ℕ) → Below n (xs ++ ys) → Below n xs
  Below-left n h i lt = let l = long in rw (left xs ys i lt) at (h i (omega arith))

  pub Below-right : (n : ℕ) → Below n (xs ++ ys) → Below n ys
  Below-right n h i lt = let l = long in rw (right-at xs ys i) at (h (length xs + i) (omega arith))

  pub Differ-append : (zs : List ℕ) → Differ zs xs → Differ zs ys → Differ zs (xs ++ ys)
  Differ-append zs hx hy i j lt inside =
      let l = long in
      elim (cases_lt j (length xs)) [
        | inl low ↦ rw (left xs ys j low) (hx i j lt low)
        | inr high ↦ rw (right xs ys j high) (hy i (j - length xs) lt (omega arith))
      ]

pub Below-more : (n m : ℕ) (xs : List ℕ) → n ≤ m → Below n xs → Below m xs
Below-more n m xs le h i lt = let k = h i lt in omega (arith, k)

-- ## Ranges

pub Apart-upto : (m k : ℕ) → Apart (upto m k)
Apart-upto m k i j lt inside =
    let l = length-upto m k in
    rw (get_or-upto m k i 0 (omega arith), get_or-upto m k j 0 (omega arith)) (λ e. absurd (omega arith))

pub Below-upto : (m k : ℕ) → Below (m + k) (upto m k)
Below-upto m k i lt = let l = length-upto m k in rw (get_or-upto m k i 0 (omega arith)) (omega arith)

pub Below-Differ-upto : (m k : ℕ) (xs : List ℕ) → Below m xs → Differ xs (upto m k)
Below-Differ-upto m k xs h i j lt inside =
    let l = length-upto m k in
    let b = h i lt in
    rw (get_or-upto m k j 0 (omega arith)) (λ e. absurd (omega arith))

-- ## Chosen places

module _ (xs : List ℕ) where
  -- what stands at these places
  abbrev pub chosen : List ℕ → List ℕ
  chosen is = map (λ i. get_or xs i 0) is

  chosen-at : (is : List ℕ) (i : ℕ) → i < length is → get_or (chosen is) i 0 ≡ get_or xs (get_or is i 0) 0
  chosen-at is i lt = get_or-map (λ k. get_or xs k 0) is i 0 0 lt

  places-apart : Apart xs → (i j : ℕ) → i ≢ j → i < length xs → j < length xs → get_or xs i 0 ≢ get_or xs j 0
  places-apart h i j ne lt lt' = elim (cases_lt i j) [
    | inl low ↦ h i j low lt'
    | inr high ↦ λ e. h j i (omega (arith, ne)) lt (sym e)
  ]

  pub Apart-chosen : (is : List ℕ) → Apart xs → Apart is → Below (length xs) is → Apart (chosen is)
  Apart-chosen is h apart below i j lt inside =
      let l = length-map is (λ k. get_or xs k 0) in
      rw (chosen-at is i (omega arith), chosen-at is j (omega arith))
      (places-apart h (get_or is i 0) (get_or is j 0) (apart i j lt (omega arith)) (below i (omega arith)) (below j (omega arith)))

  pub Differ-chosen : (is zs : List ℕ) → Differ zs xs → Below (length xs) is → Differ zs (chosen is)
  Differ-chosen is zs h below i j lt inside =
      let l = length-map is (λ k. get_or xs k 0) in
      rw (chosen-at is j (omega arith)) (h i (get_or is j 0) lt (below j (omega arith)))

  pub Below-chosen : (n : ℕ) (is : List ℕ) → Below n xs → Below (length xs) is → Below n (chosen is)
  Below-chosen n is h below i lt =
      let l = length-map is (λ k. get_or xs k 0) in
      rw (chosen-at is i (omega arith)) (h (get_or is i 0) (below i (omega arith)))

-- the test of distinct numbers
apart-from : (x : ℕ) (xs : List ℕ) → apart_from x xs ≡ true → AllByRecursion (λ y. nat_eq x y ≡ false) xs
apart-from x [] h = tt
apart-from x (y ∷ ys) h =
    let k = and_both (not (nat_eq x y)) (apart_from x ys) h in
    let first = k.0 in
    (grind (arith, nat_tests, first), apart-from x ys k.1)

distinct-from : (xs : List ℕ) → all_apart xs ≡ true → IsDistinct nat_eq xs
unfolding IsDistinct
distinct-from [] h = tt
distinct-from (x ∷ xs) h = let k = and_both (apart_from x xs) (all_apart xs) h in (apart-from x xs k.0, distinct-from xs k.1)

pub Apart-tested : (xs : List ℕ) → all_apart xs ≡ true → Apart xs
Apart-tested xs h = Apart-from xs (distinct-from xs h)
