-- What holds of a table of names.
use Rattle.std.proofs.Common.{◌≡◌, ◌≤◌, ℕ, suc, zero, List, [], ◌∷◌, ◌++◌, slice_get, Some, Bool, true, false, ◌||◌, ◌⊎◌, inl, inr, if◌then◌else◌, length, refl, sym, ap, subst, ◌∙◌, arith, append-nil, append_assoc, length-append, ◌+◌}
use Rattle.std.specs.Cmp.Lexicographic.{same_text, on_texts_equal}
use Rattle.mp_names.specs.Table.{HasNumber, AreDistinct, is_same, is_held, entered, number_of, Extends}

-- a name is the same as itself
pub same_self : (name : List ℕ) → is_same name name ≡ true
same_self name = (on_texts_equal (λ (n : List ℕ). n)).refl name

-- a name that has a number is held
pub held_from_number : (names : List (List ℕ)) (at : ℕ) (name : List ℕ) → HasNumber names at name → is_held names name ≡ true
held_from_number [] at name h = absurd cc
held_from_number (n ∷ names) zero name h =
    let is : n ≡ name = cc in
    let e : is_same name n ≡ true = subst (λ m. is_same name m ≡ true) (sym is) (same_self name) in
    rw e refl
held_from_number (n ∷ names) (suc at) name h = by (is_same name n) (held_from_number names at name h)
  where
    by : (b : Bool) → is_held names name ≡ true → (b || is_held names name) ≡ true
    by true g = refl
    by false g = g

-- a name that is held has its number
pub number_held : (names : List (List ℕ)) (name : List ℕ) → is_held names name ≡ true → HasNumber names (number_of names name) name
number_held [] name h = absurd cc
number_held (n ∷ names) name h = by (is_same name n) refl (number_held names name) h
  where
    by : (b : Bool) → is_same name n ≡ b → (is_held names name ≡ true → HasNumber names (number_of names name) name) → (b || is_held names name) ≡ true → slice_get (n ∷ names) (if b then 0 else 1 + number_of names name) ≡ Some name
    by true e r g = ap (λ (m : List ℕ). Some m) (sym (same_text name n (sym e)))
    by false e r g = let f : slice_get (n ∷ names) (suc (number_of names name)) ≡ Some name = r g in let e : 1 + number_of names name ≡ suc (number_of names name) = omega arith in subst (λ k. slice_get (n ∷ names) k ≡ Some name) (sym e) f

-- the number of a name that isn't held is the table's length
pub number_new : (names : List (List ℕ)) (name : List ℕ) → is_held names name ≡ false → number_of names name ≡ length names
number_new [] name h = refl
number_new (n ∷ names) name h = by (is_same name n) (number_new names name) h
  where
    by : (b : Bool) → (is_held names name ≡ false → number_of names name ≡ length names) → (b || is_held names name) ≡ false → (if b then 0 else 1 + number_of names name) ≡ suc (length names)
    by true r g = absurd cc
    by false r g = let e = r g in omega (arith, e)

-- the name at the end of a table has the length before it as its number
pub number_last : (names : List (List ℕ)) (name : List ℕ) → HasNumber (names ++ name ∷ []) (length names) name
number_last [] name = refl
number_last (n ∷ names) name = number_last names name

-- once entered, the name has its number
pub number_entered : (names : List (List ℕ)) (name : List ℕ) → HasNumber (entered names name) (number_of names name) name
number_entered names name = by (is_held names name) refl
  where
    by : (b : Bool) → is_held names name ≡ b → HasNumber (if b then names else names ++ name ∷ []) (number_of names name) name
    by true e = number_held names name e
    by false e = subst (λ k. HasNumber (names ++ name ∷ []) k name) (sym (number_new names name e)) (number_last names name)

-- to enter a name that is held changes nothing
pub entered_held : (names : List (List ℕ)) (name : List ℕ) → is_held names name ≡ true → entered names name ≡ names
entered_held names name e = rw e refl

-- entering a name extends the table
pub entered_extends : (names : List (List ℕ)) (name : List ℕ) → Extends names (entered names name)
entered_extends names name = by (is_held names name)
  where
    by : (b : Bool) → Extends names (if b then names else names ++ name ∷ [])
    by true = ([], sym (append-nil names))
    by false = (name ∷ [], refl)

-- entering a name adds at most one
pub entered_few : (names : List (List ℕ)) (name : List ℕ) → length (entered names name) ≤ length names + 1
entered_few names name = by (is_held names name)
  where
    by : (b : Bool) → length (if b then names else names ++ name ∷ []) ≤ length names + 1
    by true = omega arith
    by false = let e = length-append names (name ∷ []) in omega (arith, e)

-- a table that extends one that extends a third extends the third
pub extends_on : (a b c : List (List ℕ)) → Extends a b → Extends b c → Extends a c
extends_on a b c (more, e) (further, g) = (more ++ further, g ∙ ap (λ ns. ns ++ further) e ∙ append_assoc a more further)

-- a name keeps its number in a table that extends the table
pub number_kept : (names more : List (List ℕ)) (at : ℕ) (name : List ℕ) → HasNumber names at name → HasNumber (names ++ more) at name
number_kept [] more at name h = absurd cc
number_kept (n ∷ names) more zero name h = h
number_kept (n ∷ names) more (suc at) name h = number_kept names more at name h

-- from the front's end on only the last name has a number
last_number : (names : List (List ℕ)) (last : List ℕ) (at : ℕ) (name : List ℕ) → HasNumber (names ++ last ∷ []) at name → HasNumber names at name ⊎ ((at ≡ length names) × (name ≡ last))
last_number [] last zero name h = inr (refl, cc)
last_number [] last (suc at) name h = absurd cc
last_number (n ∷ names) last zero name h = inl h
last_number (n ∷ names) last (suc at) name h = elim (last_number names last at name h) [
  | inl g ↦ inl g
  | inr g ↦ inr (ap (λ k. suc k) g.0, g.1)
]

-- a further name that isn't held keeps the names distinct
pub entered_distinct : (names : List (List ℕ)) (name : List ℕ) → AreDistinct names → AreDistinct (entered names name)
entered_distinct names name d = by (is_held names name) refl
  where
    by : (b : Bool) → is_held names name ≡ b → AreDistinct (if b then names else names ++ name ∷ [])
    by true e = d
    by false e = λ i j n p q. elim (last_number names name i n p) [
      | inl g ↦ elim (last_number names name j n q) [
        | inl h ↦ d i j n g h
        | inr h ↦ (let held = held_from_number names i name (subst (HasNumber names i) h.1 g) in absurd cc)
      ]
      | inr g ↦ elim (last_number names name j n q) [
        | inl h ↦ (let held = held_from_number names j name (subst (HasNumber names j) g.1 h) in absurd cc)
        | inr h ↦ g.0 ∙ sym h.0
      ]
    ]
