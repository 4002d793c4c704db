-- Tables over keys that stand for names.
use Rattle.std.proofs.Common.{◌≡◌, ℕ, List, [], ◌∷◌, ◌++◌, map, Some, Bool, true, false, ◌||◌, if◌then◌else◌, get_or, position, refl, sym, ap, ◌∙◌, option_map, arith}
use Rattle.std.specs.List.{list_any, position_or_len}
use Rattle.std.proofs.lemmas.Option.{slice_get-map, slice_get-get_or}
use Rattle.std.proofs.lemmas.List.Quantifiers.{position-Some}
use Rattle.std.specs.Cmp.Lexicographic.{same_text}
use Rattle.mp_names.specs.Table.{HasNumber, is_same, is_held, entered, number_of}
use Rattle.mp_names.proofs.Tables.{held_from_number}

module _ {K : Type 0} (f : K → List ℕ) where
  abbrev named : List ℕ → K → Bool
  named n k = is_same n (f k)

  -- the place of the key is the number of its name
  pub number_found : (n : List ℕ) (ks : List K) (i : ℕ) → position (named n) ks ≡ Some i → HasNumber (map f ks) i n
  number_found n [] i e = absurd cc
  number_found n (k ∷ ks) i e =
      let at = position-Some (named n) (k ∷ ks) i k e in
      let g = get_or (k ∷ ks) i k in
      slice_get-map f (k ∷ ks) i ∙ ap (option_map f) (slice_get-get_or (k ∷ ks) i k at.0) ∙ ap (λ (y : List ℕ). Some y) (sym (same_text n (f g) (sym at.1)))

  any_map : (n : List ℕ) (ks : List K) → is_held (map f ks) n ≡ list_any (named n) ks
  any_map n [] = refl
  any_map n (k ∷ ks) = ap (λ b. is_same n (f k) || b) (any_map n ks)

  map_push : (k : K) (ks : List K) → map f (ks ++ k ∷ []) ≡ map f ks ++ f k ∷ []
  map_push k [] = refl
  map_push k (j ∷ ks) = ap (λ (ns : List (List ℕ)). f j ∷ ns) (map_push k ks)

  -- to insert a key enters its name
  pub entered_map : (k : K) (ks : List K) → map f (if list_any (named (f k)) ks then ks else ks ++ k ∷ []) ≡ entered (map f ks) (f k)
  entered_map k ks = by (list_any (named (f k)) ks) refl
    where
      by : (b : Bool) → list_any (named (f k)) ks ≡ b → map f (if b then ks else ks ++ k ∷ []) ≡ entered (map f ks) (f k)
      by true e = let a = any_map (f k) ks ∙ e in rw a refl
      by false e = let a = any_map (f k) ks ∙ e in rw a (map_push k ks)

  -- the place at which a key is inserted is the number of its name
  pub number_map : (n : List ℕ) (ks : List K) → position_or_len (named n) ks ≡ number_of (map f ks) n
  number_map n [] = refl
  number_map n (k ∷ ks) = by (is_same n (f k)) refl (number_map n ks)
    where
      by : (b : Bool) → is_same n (f k) ≡ b → position_or_len (named n) ks ≡ number_of (map f ks) n → position_or_len (named n) (k ∷ ks) ≡ number_of (map f (k ∷ ks)) n
      by true e r = rw e refl
      by false e r = rw e (omega (arith, r))

  -- a name without a key has no number
  pub number_absent : (n : List ℕ) (ks : List K) → list_any (named n) ks ≡ false → (at : ℕ) → HasNumber (map f ks) at n → ⊥
  number_absent n ks e at h = let held = held_from_number (map f ks) at n h in let is = any_map n ks in cc
