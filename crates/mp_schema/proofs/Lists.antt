-- Elements of lists.
pub use Rattle.mp_term.proofs.EqualTerms.{decided}
use Rattle.std.proofs.Common.{◌≡◌, ◌⊎◌, inl, inr, zero, suc, List, [], ◌∷◌, ◌++◌, Bool, true, false, cond, Option, Some, None, refl, sym, ap, ◌∙◌, subst, arith}
use Rattle.std.specs.Prelude.{◌&&◌, All}
use Rattle.std.specs.List.{list_all, flat_map, find, AllByRecursion}
use Rattle.std.proofs.lemmas.Grind.{common_steps}
use Rattle.mp_schema.specs.Occurrences.{In}

abbrev pub value_or : {X : Type 0} → X → Option X → X
value_or d None = d
value_or d (Some x) = x

module _ {X : Type 0} where
  module _ (P : X → Type 0) where
    pub each-in : (xs : List X) (x : X) → AllByRecursion P xs → In x xs → P x
    each-in [] x h i = absurd i
    each-in (y ∷ ys) x h (inl e) = subst P e h.0
    each-in (y ∷ ys) x h (inr i) = each-in ys x h.1 i

    pub in-each : (xs : List X) → ((x : X) → In x xs → P x) → AllByRecursion P xs
    in-each [] h = tt
    in-each (y ∷ ys) h = (h y (inl refl), in-each ys (λ x i. h x (inr i)))

    pub in-all : (xs : List X) → ((x : X) → In x xs → P x) → All P xs
    in-all [] k = λ i d lt. absurd (omega arith)
    in-all (x ∷ xs) k = at (k x (inl refl)) (in-all xs (λ y i. k y (inr i)))
      where
        at : P x → All P xs → All P (x ∷ xs)
        at here rest zero d lt = here
        at here rest (suc i) d lt = rest i d (omega arith)

  pub in-left : (x : X) (xs ys : List X) → In x xs → In x (xs ++ ys)
  in-left x [] ys i = absurd i
  in-left x (z ∷ xs) ys (inl e) = inl e
  in-left x (z ∷ xs) ys (inr i) = inr (in-left x xs ys i)

  pub in-right : (x : X) (xs ys : List X) → In x ys → In x (xs ++ ys)
  in-right x [] ys i = i
  in-right x (z ∷ xs) ys i = inr (in-right x xs ys i)

  pub in-split : (x : X) (xs ys : List X) → In x (xs ++ ys) → In x xs ⊎ In x ys
  in-split x [] ys i = inr i
  in-split x (z ∷ xs) ys (inl e) = inl (inl e)
  in-split x (z ∷ xs) ys (inr i) = elim (in-split x xs ys i) [ inl j ↦ inl (inr j) | inr j ↦ inr j ]

  module _ (test : X → Bool) where
    pub all-each : (xs : List X) → list_all test xs ≡ true → AllByRecursion (λ x. test x ≡ true) xs
    all-each [] e = tt
    all-each (x ∷ xs) e =
        let here : test x ≡ true = grind (arith, common_steps) in
        let there : list_all test xs ≡ true = grind (arith, common_steps) in
        (here, all-each xs there)

    pub each-all : (xs : List X) → AllByRecursion (λ x. test x ≡ true) xs → list_all test xs ≡ true
    each-all [] h = refl
    each-all (x ∷ xs) h = let rest = each-all xs h.1 in rw (h.0, rest) refl

    pub all-in : (xs : List X) (x : X) → list_all test xs ≡ true → In x xs → test x ≡ true
    all-in xs x e i = each-in (λ x. test x ≡ true) xs x (all-each xs e) i

    pub list_all-append : (xs ys : List X) → list_all test (xs ++ ys) ≡ (list_all test xs && list_all test ys)
    list_all-append [] ys = refl
    list_all-append (x ∷ xs) ys = let ih = list_all-append xs ys in grind (arith, common_steps, ih)

    pub find-Some : (xs : List X) (x : X) → find test xs ≡ Some x → In x xs × (test x ≡ true)
    find-Some [] x e = absurd cc
    find-Some (y ∷ ys) x e = by (test y) refl e (find-Some ys x)
      where
        by : (b : Bool) → test y ≡ b → cond b (Some y) (find test ys) ≡ Some x → (find test ys ≡ Some x → In x ys × (test x ≡ true)) → In x (y ∷ ys) × (test x ≡ true)
        by true t k rest = let same : y ≡ x = ap (value_or x) k in (inl same, ap test (sym same) ∙ t)
        by false t k rest = let r = rest k in (inr r.0, r.1)

    pub find-None : (xs : List X) (x : X) → find test xs ≡ None → In x xs → test x ≡ false
    find-None [] x e i = absurd i
    find-None (y ∷ ys) x e i = by (test y) refl e i (find-None ys x)
      where
        by : (b : Bool) → test y ≡ b → cond b (Some y) (find test ys) ≡ None → In x (y ∷ ys) → (find test ys ≡ None → In x ys → test x ≡ false) → test x ≡ false
        by true t k j rest = absurd cc
        by false t k (inl same) rest = ap test (sym same) ∙ t
        by false t k (inr j) rest = rest k j

module _ {X Y : Type 0} (f : X → List Y) where
  pub in-flat : (xs : List X) (x : X) (y : Y) → In x xs → In y (f x) → In y (flat_map f xs)
  in-flat [] x y i j = absurd i
  in-flat (z ∷ xs) x y (inl e) j = in-left y (f z) (flat_map f xs) (subst (λ w. In y (f w)) (sym e) j)
  in-flat (z ∷ xs) x y (inr i) j = in-right y (f z) (flat_map f xs) (in-flat xs x y i j)

  pub flat-in : (xs : List X) (y : Y) → In y (flat_map f xs) → (x : X) × (In x xs × In y (f x))
  flat-in [] y i = absurd i
  flat-in (z ∷ xs) y i = elim (in-split y (f z) (flat_map f xs) i) [
    | inl j ↦ (z, (inl refl, j))
    | inr j ↦ let r = flat-in xs y j in (r.0, (inr r.1.0, r.1.1))
  ]
