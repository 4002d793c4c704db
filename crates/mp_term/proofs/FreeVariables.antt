-- A term is found exactly where each free variable is listed.
use Rattle.std.proofs.Common.{◌≡◌, ℕ, ◌+◌, ◌-◌, ◌<◌, ◌≤◌, List, [], ◌∷◌, length, map, IsTrue, Option, Some, None, nat_eq, refl, inl, inr, ◌⊎◌, arith}
use Rattle.std.specs.Prelude.{position, Bool, true, false, IsFalse}
use Rattle.std.specs.List.{list_any, position_or_len}
use Rattle.std.specs.Option.{option_map}
use Rattle.std.proofs.lemmas.Bool.{cases_lt}
use Rattle.std.proofs.lemmas.Bool.Decides.{nat_tests}
use Rattle.std.proofs.lemmas.Grind.{common_steps}
use Rattle.mp_logic.specs.declared.sym.Sym.{Sym}
use Rattle.mp_term.specs.declared.term.Param.{Param}
use Rattle.mp_term.specs.declared.term.Term.{Term, Var, Op}
use Rattle.mp_term.specs.declared.term.Bound.{Bound}
use Rattle.mp_term.specs.Induction.{OfEachBody, each_term}
use Rattle.mp_term.specs.Subst.{all_some, unrenamed, unrenamed_bound, any_true, occurs_in, is_listed, IsFoundWhereListed}
use Rattle.mp_term.proofs.Layers.{unrenamed-Var, unrenamed-Op, unrenamed_bound-is, with_first, all_some-cons, occurs_bound, occurs-Var, occurs-Op, occurs_bound-is}

abbrev IsPlacedOrAbsent : (ℕ → Bool) → List ℕ → Type 0
IsPlacedOrAbsent p xs =
    ((list_any p xs ≡ true) × (position_or_len p xs < length xs)) ⊎ ((list_any p xs ≡ false) × (length xs ≤ position_or_len p xs))

placed_after : (p : ℕ → Bool) (x : ℕ) (xs : List ℕ) (b : Bool) → p x ≡ b → IsPlacedOrAbsent p xs → IsPlacedOrAbsent p (x ∷ xs)
placed_after p x xs true is rest = inl (grind (arith, common_steps, is), grind (arith, common_steps, is))
placed_after p x xs false is (inl near) = let a = near.0 in let b = near.1 in inl (grind (arith, common_steps, is, a), grind (arith, common_steps, is, b))
placed_after p x xs false is (inr far) = let a = far.0 in let b = far.1 in inr (grind (arith, common_steps, is, a), grind (arith, common_steps, is, b))

-- a first place is there exactly where some item passes
place_or_none : (p : ℕ → Bool) (xs : List ℕ) → IsPlacedOrAbsent p xs
place_or_none p [] = inr (refl, omega arith)
place_or_none p (x ∷ xs) = placed_after p x xs (p x) refl (place_or_none p xs)

placed : (p : ℕ → Bool) (xs : List ℕ) (i : ℕ) → position p xs ≡ Some i → list_any p xs ≡ true
placed p xs i is = elim (place_or_none p xs) [
  | inl here ↦ here.0
  | inr away ↦ let far = away.1 in absurd (grind (arith, nat_tests, common_steps, far))
]

not_placed : (p : ℕ → Bool) (xs : List ℕ) → position p xs ≡ None → list_any p xs ≡ false
not_placed p xs is = elim (place_or_none p xs) [
  | inl here ↦ let near = here.1 in absurd (grind (arith, nat_tests, common_steps, near))
  | inr away ↦ away.0
]

module _ (levels : List ℕ) (n : ℕ) where
  abbrev IsCovered : Term → Type 0
  IsCovered t = (r : Option Term) → r ≡ unrenamed levels n t → IsFoundWhereListed levels n t r

  free_var : (level : ℕ) (place : Option ℕ) → level < n → position (λ x. nat_eq x level) levels ≡ place → (r : Option Term) → r ≡ option_map Var place →
      IsFoundWhereListed levels n (Var level) r
  free_var level None low at None is = (level, (low, rw occurs-Var (grind (arith, nat_tests)), not_placed (λ x. nat_eq x level) levels at))
  free_var level None low at (Some u) is = absurd (cc)
  free_var level (Some place) low at None is = absurd (cc)
  free_var level (Some place) low at (Some u) is = λ i below stands.
      let test = rw occurs-Var at stands in
      let same : level ≡ i = grind (arith, nat_tests, test) in
      rw (← same) (placed (λ x. nat_eq x level) levels place at)

  bound_var : (level : ℕ) (u : Term) → n ≤ level → (r : Option Term) → r ≡ Some u → IsFoundWhereListed levels n (Var level) r
  bound_var level u high None is = absurd (cc)
  bound_var level u high (Some v) is = λ i below stands.
      let test = rw occurs-Var at stands in
      let same : level ≡ i = grind (arith, nat_tests, test) in absurd (omega arith)

  covered_var : (level : ℕ) → IsCovered (Var level)
  covered_var level r is = elim (cases_lt level n) [
    | inl low ↦
        let e : r ≡ option_map Var (position (λ x. nat_eq x level) levels) = grind (arith, nat_tests, is, unrenamed-Var levels n level) in
        free_var level (position (λ x. nat_eq x level) levels) low refl r e
    | inr high ↦
        let e : r ≡ Some (Var (level - n + length levels)) = grind (arith, nat_tests, is, unrenamed-Var levels n level) in
        bound_var level (Var (level - n + length levels)) high r e
  ]

  -- the same of a row of bodies
  abbrev AreFound : List Bound → Option (List Bound) → Type 0
  AreFound bs None = (i : ℕ) × ((i < n) × IsTrue (any_true (map (occurs_bound i) bs)) × IsFalse (is_listed i levels))
  AreFound bs (Some made) = (i : ℕ) → i < n → IsTrue (any_true (map (occurs_bound i) bs)) → IsTrue (is_listed i levels)

  stands_first : (i : ℕ) (b : Bound) (bs : List Bound) → IsTrue (occurs_in i b.body) → IsTrue (any_true (map (occurs_bound i) (b ∷ bs)))
  stands_first i b bs h = let e = occurs_bound-is i b in let h' : IsTrue (occurs_bound i b) = rw e h in grind (arith, common_steps, h')

  stands_later : (i : ℕ) (b : Bound) (bs : List Bound) → IsTrue (any_true (map (occurs_bound i) bs)) → IsTrue (any_true (map (occurs_bound i) (b ∷ bs)))
  stands_later i b bs h = grind (arith, common_steps, h)

  stands_somewhere : (i : ℕ) (b : Bound) (bs : List Bound) → IsTrue (any_true (map (occurs_bound i) (b ∷ bs))) →
      IsTrue (occurs_in i b.body) ⊎ IsTrue (any_true (map (occurs_bound i) bs))
  stands_somewhere i b bs h = go (occurs_bound i b) refl where
    go : (yes : Bool) → occurs_bound i b ≡ yes → IsTrue (occurs_in i b.body) ⊎ IsTrue (any_true (map (occurs_bound i) bs))
    go true is = inl (rw (occurs_bound-is i b) at is)
    go false is = inr (grind (arith, common_steps, h, is))

  abbrev with_body : Bound → Term → Bound
  with_body b t = record { binders = b.binders; body = t }

  both : (b : Bound) (bs : List Bound) (x : Option Term) (others : Option (List Bound)) → IsFoundWhereListed levels n b.body x → AreFound bs others →
      (made : Option (List Bound)) → made ≡ with_first (option_map (with_body b) x) others → AreFound (b ∷ bs) made
  both b bs None others hb hs None is = (hb.0, (hb.1.0, stands_first hb.0 b bs hb.1.1, hb.1.2))
  both b bs None others hb hs (Some made) is = absurd (cc)
  both b bs (Some u) None hb hs None is = (hs.0, (hs.1.0, stands_later hs.0 b bs hs.1.1, hs.1.2))
  both b bs (Some u) None hb hs (Some made) is = absurd (cc)
  both b bs (Some u) (Some rest) hb hs None is = absurd (cc)
  both b bs (Some u) (Some rest) hb hs (Some made) is = λ i below stands.
      elim (stands_somewhere i b bs stands) [ inl first ↦ hb i below first | inr later ↦ hs i below later ]

  covered_bounds : (bs : List Bound) → OfEachBody IsCovered bs → (made : Option (List Bound)) → made ≡ all_some (map (unrenamed_bound levels n) bs) → AreFound bs made
  covered_bounds [] h None is = absurd (cc)
  covered_bounds [] h (Some made) is = λ i below stands. absurd (cc)
  covered_bounds (b ∷ bs) h made is =
      let apart : made ≡ with_first (option_map (with_body b) (unrenamed levels n b.body)) (all_some (map (unrenamed_bound levels n) bs)) = rw (all_some-cons, unrenamed_bound-is) at is in
      both b bs (unrenamed levels n b.body) (all_some (map (unrenamed_bound levels n) bs)) (h.0 (unrenamed levels n b.body) refl)
      (covered_bounds bs h.1 (all_some (map (unrenamed_bound levels n) bs)) refl) made apart

  of_row : (o : Sym) (ps : List Param) (bs : List Bound) (made : Option (List Bound)) → AreFound bs made → (r : Option Term) → r ≡ option_map (Op o ps) made →
      IsFoundWhereListed levels n (Op o ps bs) r
  of_row o ps bs None h None is = (h.0, (h.1.0, rw (occurs-Op h.0 o ps bs) h.1.1, h.1.2))
  of_row o ps bs None h (Some u) is = absurd (cc)
  of_row o ps bs (Some made) h None is = absurd (cc)
  of_row o ps bs (Some made) h (Some u) is = λ i below stands. h i below (rw (occurs-Op i o ps bs) at stands)

  covered_op : (o : Sym) (ps : List Param) (bs : List Bound) → OfEachBody IsCovered bs → IsCovered (Op o ps bs)
  covered_op o ps bs h r is =
      of_row o ps bs (all_some (map (unrenamed_bound levels n) bs)) (covered_bounds bs h (all_some (map (unrenamed_bound levels n) bs)) refl) r (rw unrenamed-Op at is)

  pub found_where_listed : (t : Term) (r : Option Term) → r ≡ unrenamed levels n t → IsFoundWhereListed levels n t r
  found_where_listed = each_term IsCovered covered_var covered_op
