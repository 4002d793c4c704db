-- Lists with a change of one item.
use Rattle.std.proofs.Common.{◌≡◌, ◌≤◌, ◌<◌, ℕ, ◌+◌, ◌-◌, zero, suc, List, [], ◌∷◌, ◌++◌, map, length, take, drop, get_or, sum, max, Bool, true, Some, refl, sym, ap, ◌∙◌, subst, append_assoc, length-drop, arith}
use Rattle.std.specs.Prelude.{slice_get}
use Rattle.std.specs.List.{list_all}
use Rattle.std.proofs.lemmas.Grind.{common_steps}
use Rattle.mp_logic.specs.Lists.{greatest}
use Rattle.mp_schema.proofs.Lists.{value_or}
use Rattle.mp_term.proofs.EqualTerms.{both_true, and_true}
use Rattle.mp_rewrite.specs.Addresses.{changed_at}

module _ {X : Type 0} where
  take-all : (n : ℕ) (xs : List X) → length xs ≤ n → take n xs ≡ xs
  take-all zero [] h = refl
  take-all zero (x ∷ xs) h = absurd (omega (arith, h))
  take-all (suc n) [] h = refl
  take-all (suc n) (x ∷ xs) h = ap (λ ys. x ∷ ys) (take-all n xs (omega (arith, h)))

  -- nothing changes past the end
  pub changed-past : (f : X → X) (xs : List X) (n : ℕ) → length xs ≤ n → changed_at n f xs ≡ xs
  changed-past f [] n h = refl
  changed-past f (x ∷ xs) zero h = absurd (omega arith)
  changed-past f (x ∷ xs) (suc n) h = ap (λ ys. x ∷ ys) (changed-past f xs n (omega arith))

  -- the items before the one that changes, and those after it
  pub changed-parts : (f : X → X) (xs : List X) (n : ℕ) (x : X) → n < length xs → x ≡ get_or xs n x → take n xs ++ f x ∷ drop (suc n) xs ≡ changed_at n f xs
  changed-parts f [] n x h e = absurd (omega arith)
  changed-parts f (y ∷ ys) zero x h e = ap (λ z. f z ∷ ys) e
  changed-parts f (y ∷ ys) (suc n) x h e = ap (λ zs. y ∷ zs) (changed-parts f ys n x (omega arith) e)

  -- the items from a place on are as many as are left
  pub taken-rest : (xs : List X) (k : ℕ) → take (length xs - k) (drop k xs) ≡ drop k xs
  taken-rest xs k = let l = length-drop k xs in take-all (length xs - k) (drop k xs) (omega (arith, l))

  -- the list that is put together of the items before, the changed one, and those after it
  pub changed-made : (f : X → X) (xs : List X) (n : ℕ) (x y : X) (a b c : List X) → n < length xs → x ≡ get_or xs n x → y ≡ f x → a ≡ take n xs → b ≡ a ++ y ∷ [] →
      c ≡ b ++ drop (n + 1) xs → c ≡ changed_at n f xs
  changed-made f xs n x y a b c lt is y_is a_is b_is c_is =
      let e : n + 1 ≡ suc n = omega arith in
      c_is
      ∙ ap (λ l. l ++ drop (n + 1) xs) (b_is ∙ ap (λ l. l ++ y ∷ []) a_is)
      ∙ append_assoc (take n xs) (y ∷ []) (drop (n + 1) xs)
      ∙ ap (λ z. take n xs ++ z ∷ drop (n + 1) xs) y_is
      ∙ ap (λ k. take n xs ++ f x ∷ drop k xs) e
      ∙ changed-parts f xs n x lt is

  pub length-changed : (f : X → X) (xs : List X) (n : ℕ) → length (changed_at n f xs) ≡ length xs
  length-changed f [] n = refl
  length-changed f (x ∷ xs) zero = refl
  length-changed f (x ∷ xs) (suc n) = let ih = length-changed f xs n in omega arith

  -- only what becomes of the item itself counts
  pub changed-same : (f g : X → X) (xs : List X) (n : ℕ) (x : X) → slice_get xs n ≡ Some x → f x ≡ g x → changed_at n f xs ≡ changed_at n g xs
  changed-same f g [] n x at e = refl
  changed-same f g (y ∷ ys) zero x at e =
      let k : y ≡ x = ap (value_or y) at in
      ap (λ z. z ∷ ys) (ap f k ∙ e ∙ sym (ap g k))
  changed-same f g (y ∷ ys) (suc n) x at e = ap (λ zs. y ∷ zs) (changed-same f g ys n x at e)

  module _ (m : X → ℕ) where
    sum-first : (x : X) (xs : List X) → sum (map m (x ∷ xs)) ≡ m x + sum (map m xs)
    sum-first x xs = grind (arith, common_steps)

    pub item-in-sum : (xs : List X) (n : ℕ) (x : X) → slice_get xs n ≡ Some x → m x ≤ sum (map m xs)
    item-in-sum [] n x at = absurd cc
    item-in-sum (y ∷ ys) zero x at =
        let k : y ≡ x = ap (value_or y) at in
        let one = sum-first y ys in
        let same = ap m k in
        omega (arith, one, same)
    item-in-sum (y ∷ ys) (suc n) x at =
        let ih = item-in-sum ys n x at in
        let one = sum-first y ys in
        omega (arith, ih, one)

    pub item-low : (xs : List X) (n : ℕ) (x : X) → slice_get xs n ≡ Some x → m x ≤ greatest (map m xs)
    item-low [] n x at = absurd cc
    item-low (y ∷ ys) zero x at = let k : y ≡ x = ap (value_or y) at in rw k (omega arith)
    item-low (y ∷ ys) (suc n) x at = let ih = item-low ys n x at in omega arith

    module _ (f : X → X) where
      pub sum-changed : (xs : List X) (n : ℕ) (x : X) → slice_get xs n ≡ Some x → sum (map m (changed_at n f xs)) + m x ≡ sum (map m xs) + m (f x)
      sum-changed [] n x at = absurd cc
      sum-changed (y ∷ ys) zero x at =
          let k : y ≡ x = ap (value_or y) at in
          let one = sum-first (f y) ys in
          let other = sum-first y ys in
          let same = ap m k in
          let same_too = ap (λ z. m (f z)) k in
          omega (arith, one, other, same, same_too)
      sum-changed (y ∷ ys) (suc n) x at =
          let ih = sum-changed ys n x at in
          let one = sum-first y (changed_at n f ys) in
          let other = sum-first y ys in
          omega (arith, ih, one, other)

      pub greatest-changed : (xs : List X) (n : ℕ) (x : X) → slice_get xs n ≡ Some x → greatest (map m (changed_at n f xs)) ≤ max (greatest (map m xs)) (m (f x))
      greatest-changed [] n x at = absurd cc
      greatest-changed (y ∷ ys) zero x at = let k : y ≡ x = ap (value_or y) at in rw k (omega arith)
      greatest-changed (y ∷ ys) (suc n) x at = let ih = greatest-changed ys n x at in omega arith

      pub changed-low : (xs : List X) (n : ℕ) (x : X) → slice_get xs n ≡ Some x → m (f x) ≤ greatest (map m (changed_at n f xs))
      changed-low [] n x at = absurd cc
      changed-low (y ∷ ys) zero x at = let k : y ≡ x = ap (value_or y) at in rw k (omega arith)
      changed-low (y ∷ ys) (suc n) x at = let ih = changed-low ys n x at in omega arith

  module _ (test : X → Bool) where
    pub item-passes : (xs : List X) (n : ℕ) (x : X) → slice_get xs n ≡ Some x → list_all test xs ≡ true → test x ≡ true
    item-passes [] n x at e = absurd cc
    item-passes (y ∷ ys) zero x at e = let k : y ≡ x = ap (value_or y) at in subst (λ z. test z ≡ true) k (both_true (test y) (list_all test ys) e).0
    item-passes (y ∷ ys) (suc n) x at e = item-passes ys n x at (both_true (test y) (list_all test ys) e).1

    pub changed-passes : (f : X → X) (xs : List X) (n : ℕ) (x : X) → slice_get xs n ≡ Some x → list_all test xs ≡ true → test (f x) ≡ true → list_all test (changed_at n f xs) ≡ true
    changed-passes f [] n x at e h = absurd cc
    changed-passes f (y ∷ ys) zero x at e h =
        let k : y ≡ x = ap (value_or y) at in
        and_true (test (f y)) (list_all test ys) (ap (λ z. test (f z)) k ∙ h) (both_true (test y) (list_all test ys) e).1
    changed-passes f (y ∷ ys) (suc n) x at e h =
        let k = both_true (test y) (list_all test ys) e in
        and_true (test y) (list_all test (changed_at n f ys)) k.0 (changed-passes f ys n x at k.1 h)

    pub item-of-changed : (f : X → X) (xs : List X) (n : ℕ) (x : X) → slice_get xs n ≡ Some x → list_all test (changed_at n f xs) ≡ true → test (f x) ≡ true
    item-of-changed f [] n x at e = absurd cc
    item-of-changed f (y ∷ ys) zero x at e =
        let k : y ≡ x = ap (value_or y) at in
        ap (λ z. test (f z)) (sym k) ∙ (both_true (test (f y)) (list_all test ys) e).0
    item-of-changed f (y ∷ ys) (suc n) x at e = item-of-changed f ys n x at (both_true (test y) (list_all test (changed_at n f ys)) e).1

    pub taken-pass : (xs : List X) (n : ℕ) → list_all test xs ≡ true → list_all test (take n xs) ≡ true
    taken-pass xs zero e = refl
    taken-pass [] (suc n) e = refl
    taken-pass (x ∷ xs) (suc n) e =
        let k = both_true (test x) (list_all test xs) e in and_true (test x) (list_all test (take n xs)) k.0 (taken-pass xs n k.1)
