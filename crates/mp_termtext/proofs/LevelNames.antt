-- Printed names of levels, and the levels that they mean.
use Rattle.std.proofs.Common.{◌≡◌, ◌++◌, ◌+◌, ◌-◌, ◌<◌, ◌≤◌, ◌^◌, ℕ, zero, suc, List, [], ◌∷◌, None, Some, Bool, true, false, nat_eq, nat_lt, if◌then◌else◌, length, slice_get, refl, ap, sym, subst, ◌∙◌, ne_eqb, add-one, arith}
use Rattle.std.proofs.lemmas.Bool.Decides.{nat_tests}
use Rattle.mp_logic.specs.declared.sym.Sym.{Sym}
use Rattle.mp_names.specs.Table.{HasNumber, is_held, number_of}
use Rattle.mp_names.proofs.Tables.{number_held}
use Rattle.mp_termtext.specs.Printing.{name_text}
use Rattle.mp_termtext.specs.Statics.{free_level, level_by, level_of, or_here, place_in}
use Rattle.mp_words.specs.Words.{numbered_of, sym_of}
use Rattle.mp_termtext.proofs.NumberTexts.{name_text-injective, numbered-name_text}
use Rattle.mp_termtext.proofs.Printable.{most_levels}

same_some : (a b : List ℕ) → Some a ≡ Some b → a ≡ b
same_some a b e = cc

same_eq : (a : ℕ) → nat_eq a a ≡ true
same_eq a = grind (arith, nat_tests)

module _ (table : List (List ℕ)) where
  -- the number of the name of a level
  abbrev pub name_at : ℕ → Sym
  name_at l = sym_of table (name_text l)

  abbrev pub IsNamed : ℕ → Type 0
  IsNamed l = is_held table (name_text l) ≡ true

  -- the names of so many levels from this one on
  abbrev pub names_from : ℕ → ℕ → List Sym
  names_from l zero = []
  names_from l (suc n) = name_at l ∷ names_from (l + 1) n

  pub names_join : (n l k : ℕ) → names_from l n ++ names_from (l + n) k ≡ names_from l (n + k)
  names_join zero l k = let e : l + 0 ≡ l = omega arith in let f : k ≡ 0 + k = omega arith in ap (λ j. names_from j k) e ∙ ap (names_from l) f
  names_join (suc n) l k =
      let e : l + suc n ≡ l + 1 + n = omega arith in
      let f : suc (n + k) ≡ suc n + k = omega arith in
      ap (λ j. name_at l ∷ (names_from (l + 1) n ++ names_from j k)) e ∙ ap (λ ns. name_at l ∷ ns) (names_join n (l + 1) k) ∙ ap (names_from l) f

  pub length-names_from : (n l : ℕ) → length (names_from l n) ≡ n
  length-names_from zero l = refl
  length-names_from (suc n) l = ap (λ k. suc k) (length-names_from n (l + 1))

  -- levels have numbers of their own
  apart : (i j : ℕ) → i < most_levels → j < most_levels → IsNamed i → IsNamed j → number_of table (name_text i) ≡ number_of table (name_text j) → i ≡ j
  apart i j a b h k e =
      let one : HasNumber table (number_of table (name_text i)) (name_text i) = number_held table (name_text i) h in
      let two : HasNumber table (number_of table (name_text j)) (name_text j) = number_held table (name_text j) k in
      let same : name_text i ≡ name_text j = same_some (name_text i) (name_text j) (sym one ∙ ap (λ n. slice_get table n) e ∙ two) in
      name_text-injective i j (omega (arith, a)) (omega (arith, b)) same

  other : (i j : ℕ) → i < most_levels → j < most_levels → IsNamed i → IsNamed j → (i ≡ j → ⊥) → nat_eq (name_at i).0 (name_at j).0 ≡ false
  other i j a b h k d = ne_eqb (number_of table (name_text i)) (number_of table (name_text j)) (λ e. d (apart i j a b h k e))

  -- a level below them isn't among the levels
  pub place_absent : (n l k : ℕ) → l + n ≤ most_levels → k < l → ((j : ℕ) → j < n → IsNamed (l + j)) → IsNamed k → place_in (names_from l n) (name_at k) ≡ None
  place_absent zero l k w lt held h = refl
  place_absent (suc n) l k w lt held h =
      let rest = place_absent n (l + 1) k (omega (arith, w)) (omega (arith, lt)) (λ j b. (let e : l + suc j ≡ l + 1 + j = omega arith in subst IsNamed e (held (suc j) (omega (arith, b))))) h in
      let same : l + 0 ≡ l = omega arith in
      let first : IsNamed l = subst IsNamed same (held 0 (omega arith)) in
      let no_name = other l k (omega (arith, w)) (omega (arith, w, lt)) first h (λ e. omega (arith, lt, e)) in
      ap (λ o. or_here o (nat_eq (name_at l).0 (name_at k).0)) rest ∙ ap (or_here None) no_name

  -- a level of them is at its place
  pub place_here : (n i l : ℕ) → l + n ≤ most_levels → i < n → ((j : ℕ) → j < n → IsNamed (l + j)) → place_in (names_from l n) (name_at (l + i)) ≡ Some i
  place_here zero i l w lt held = absurd (omega (arith, lt))
  place_here (suc n) zero l w lt held =
      let same : l + 0 ≡ l = omega arith in
      let first : IsNamed l = subst IsNamed same (held 0 (omega arith)) in
      let rest = place_absent n (l + 1) l (omega (arith, w)) (omega arith) (λ j b. (let e : l + suc j ≡ l + 1 + j = omega arith in subst IsNamed e (held (suc j) (omega (arith, b))))) first in
      ap (λ k. place_in (names_from l (suc n)) (name_at k)) same ∙ ap (λ o. or_here o (nat_eq (name_at l).0 (name_at l).0)) rest ∙ ap (or_here None) (same_eq (name_at l).0)
  place_here (suc n) (suc i) l w lt held =
      let e : l + suc i ≡ l + 1 + i = omega arith in
      let f : 1 + i ≡ suc i = omega arith in
      let rest = place_here n i (l + 1) (omega (arith, w)) (omega (arith, lt)) (λ j b. (let g : l + suc j ≡ l + 1 + j = omega arith in subst IsNamed g (held (suc j) (omega (arith, b))))) in
      ap (λ k. place_in (names_from l (suc n)) (name_at k)) e ∙ ap (λ o. or_here o (nat_eq (name_at l).0 (name_at (l + 1 + i)).0)) rest ∙ ap (λ (k : ℕ). Some k) f

  free_here : (free l : ℕ) → l < free → free < 2 ^ 31 → free_level free (numbered_of (name_text l)) ≡ Some l
  free_here free l lt w =
      let number : numbered_of (name_text l) ≡ Some (suc l) = numbered-name_text l (omega (arith, lt, w)) ∙ ap (λ (k : ℕ). Some k) (add-one l) in
      let below : nat_lt l free ≡ true = grind (arith, nat_tests, lt) in
      ap (free_level free) number ∙ ap (λ b. if b then Some l else None) below

  -- the name of a level in scope means that level
  pub level_again : (free n l : ℕ) → free < 2 ^ 31 → free + n ≤ most_levels → l < free + n → ((j : ℕ) → j < n → IsNamed (free + j)) → IsNamed l → level_of free (names_from free n) (name_at l) (numbered_of (name_text l)) ≡ Some l
  level_again free n l w few lt held h = by (nat_lt l free) refl
    where
      by : (b : Bool) → nat_lt l free ≡ b → level_of free (names_from free n) (name_at l) (numbered_of (name_text l)) ≡ Some l
      by true e =
          let below : l < free = grind (arith, nat_tests, e) in
          ap (λ o. level_by free o (numbered_of (name_text l))) (place_absent n free l few below held h) ∙ free_here free l below w
      by false e =
          let over : free ≤ l = grind (arith, nat_tests, e) in
          let to : free + (l - free) ≡ l = omega (arith, over) in
          ap (λ k. level_of free (names_from free n) (name_at k) (numbered_of (name_text l))) (sym to)
          ∙ ap (λ o. level_by free o (numbered_of (name_text l))) (place_here n (l - free) free few (omega (arith, over, lt)) held) ∙ ap (λ (k : ℕ). Some k) to
