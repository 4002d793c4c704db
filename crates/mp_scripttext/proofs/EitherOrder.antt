-- The least fault of two lists is the same in either order.
use Rattle.std.proofs.Common.{◌≡◌, ◌++◌, inl, inr, ℕ, List, [], ◌∷◌, Option, Some, None, false, nat_lt, nat_eq, ◌&&◌, ◌||◌, get_or, refl, ap, sym, subst, ◌∙◌, arith}
use Rattle.std.proofs.lemmas.Bool.Decides.{nat_tests}
use Rattle.mp_words.specs.declared.fail.TextErr.{TextErr}
use Rattle.mp_words.specs.declared.fail.TextWhy.{TextWhy}
use Rattle.mp_words.specs.declared.fail.TextWhy.TheVariants as why
use Rattle.mp_words.specs.Faults.{IsLeastOf, IsOneOf, NoneSooner, is_sooner, least, least_from, rank_of}
use Rattle.mp_words.proofs.Answering.{none_least}
use Rattle.mp_words.proofs.Soonest.{least_from_append, least_is_least}

-- ## No two kinds have one rank

-- the kinds, in the order of their ranks
abbrev in_order : List TextWhy
in_order =
    why.Taken
    ∷ why.UnknownName
    ∷ why.TooMany
    ∷ why.TooDeep
    ∷ why.TooBig
    ∷ why.BadNumber
    ∷ why.UnboundVar
    ∷ why.DanglingContext
    ∷ why.TwiceContext
    ∷ why.TooManyContexts
    ∷ why.MisplacedHyp
    ∷ why.NotAPattern
    ∷ why.BadUse
    ∷ why.UnboundParam
    ∷ why.UnboundMeta
    ∷ why.AtNeeded
    ∷ why.AtRefused
    ∷ why.MissingWith
    ∷ why.ExtraWith
    ∷ why.TwiceWith
    ∷ why.BadArity
    ∷ why.WrongGoal
    ∷ why.BadIndent
    ∷ why.CountDiffers
    ∷ why.WrongLabel
    ∷ why.NotCanonical
    ∷ why.Cycle
    ∷ why.Conditional
    ∷ why.NestedSweep
    ∷ why.BadDerivation
    ∷ why.BadCheckpoint
    ∷ why.BadByte
    ∷ why.LongName
    ∷ why.BadString
    ∷ why.TooNested
    ∷ why.Syntax
    ∷ []

at_its_rank : (w : TextWhy) → get_or in_order (rank_of w) why.Taken ≡ w
at_its_rank why.Taken = refl
at_its_rank why.UnknownName = refl
at_its_rank why.TooMany = refl
at_its_rank why.TooDeep = refl
at_its_rank why.TooBig = refl
at_its_rank why.BadNumber = refl
at_its_rank why.UnboundVar = refl
at_its_rank why.DanglingContext = refl
at_its_rank why.TwiceContext = refl
at_its_rank why.TooManyContexts = refl
at_its_rank why.MisplacedHyp = refl
at_its_rank why.NotAPattern = refl
at_its_rank why.BadUse = refl
at_its_rank why.UnboundParam = refl
at_its_rank why.UnboundMeta = refl
at_its_rank why.AtNeeded = refl
at_its_rank why.AtRefused = refl
at_its_rank why.MissingWith = refl
at_its_rank why.ExtraWith = refl
at_its_rank why.TwiceWith = refl
at_its_rank why.BadArity = refl
at_its_rank why.WrongGoal = refl
at_its_rank why.BadIndent = refl
at_its_rank why.CountDiffers = refl
at_its_rank why.WrongLabel = refl
at_its_rank why.NotCanonical = refl
at_its_rank why.Cycle = refl
at_its_rank why.Conditional = refl
at_its_rank why.NestedSweep = refl
at_its_rank why.BadDerivation = refl
at_its_rank why.BadCheckpoint = refl
at_its_rank why.BadByte = refl
at_its_rank why.LongName = refl
at_its_rank why.BadString = refl
at_its_rank why.TooNested = refl
at_its_rank why.Syntax = refl

same_kind : (w v : TextWhy) → rank_of w ≡ rank_of v → w ≡ v
same_kind w v h = sym (at_its_rank w) ∙ ap (λ n. get_or in_order n why.Taken) h ∙ at_its_rank v

-- ## Two least faults of the same faults

same_places : (a r b q : ℕ) → (nat_lt a b || (nat_eq a b && nat_lt r q)) ≡ false → (nat_lt b a || (nat_eq b a && nat_lt q r)) ≡ false → (a ≡ b) × (r ≡ q)
same_places a r b q e f = (grind (arith, nat_tests, e, f), grind (arith, nat_tests, e, f))

-- faults of which none is earlier than the other are the same
alike : (f g : TextErr) → is_sooner f g ≡ false → is_sooner g f ≡ false → f ≡ g
alike f g e h =
    let both = same_places f.at (rank_of f.why) g.at (rank_of g.why) e h in
    let kind : f.why ≡ g.why = same_kind f.why g.why both.1 in
    λ i. record { at = both.0 i; why = kind i }

none_sooner_of : (f g : TextErr) (fs : List TextErr) → IsOneOf g fs → NoneSooner f fs → is_sooner g f ≡ false
none_sooner_of f g [] is none = absurd is
none_sooner_of f g (h ∷ fs) is none = elim is as (λ s. is_sooner g f ≡ false) [ inl e ↦ subst (λ x. is_sooner x f ≡ false) (sym e) none.0 | inr e ↦ none_sooner_of f g fs e none.1 ]

left_is_one : (f : TextErr) (fs gs : List TextErr) → IsOneOf f fs → IsOneOf f (fs ++ gs)
left_is_one f [] gs is = absurd is
left_is_one f (h ∷ fs) gs is = elim is as (λ s. IsOneOf f (h ∷ fs ++ gs)) [ inl e ↦ inl e | inr e ↦ inr (left_is_one f fs gs e) ]

right_is_one : (f : TextErr) (fs gs : List TextErr) → IsOneOf f gs → IsOneOf f (fs ++ gs)
right_is_one f [] gs is = is
right_is_one f (h ∷ fs) gs is = inr (right_is_one f fs gs is)

in_other_order : (f : TextErr) (fs gs : List TextErr) → IsOneOf f (fs ++ gs) → IsOneOf f (gs ++ fs)
in_other_order f [] gs is = left_is_one f gs [] is
in_other_order f (h ∷ fs) gs is = elim is as (λ s. IsOneOf f (gs ++ h ∷ fs)) [ inl e ↦ right_is_one f gs (h ∷ fs) (inl e) | inr e ↦ one_further (in_other_order f fs gs e) ]
  where
    one_further : IsOneOf f (gs ++ fs) → IsOneOf f (gs ++ h ∷ fs)
    one_further is = between gs is
      where
        between : (ks : List TextErr) → IsOneOf f (ks ++ fs) → IsOneOf f (ks ++ h ∷ fs)
        between [] k = inr k
        between (l ∷ ks) k = elim k as (λ s. IsOneOf f (l ∷ ks ++ h ∷ fs)) [ inl e ↦ inl e | inr e ↦ inr (between ks e) ]

-- where the one list is empty, so is the other
one_of_none : (f : TextErr) (fs gs : List TextErr) → fs ++ gs ≡ [] → IsOneOf f (gs ++ fs) → ⊥
one_of_none f fs gs none is = let other : IsOneOf f (fs ++ gs) = in_other_order f gs fs is in subst (IsOneOf f) none other

module _ (fs gs : List TextErr) where
  same_least : (a b : Option TextErr) → IsLeastOf (fs ++ gs) a → IsLeastOf (gs ++ fs) b → a ≡ b
  same_least None None h k = refl
  same_least None (Some g) h k = absurd (one_of_none g fs gs h k.0)
  same_least (Some f) None h k = absurd (one_of_none f gs fs k h.0)
  same_least (Some f) (Some g) h k =
      ap (λ x. let o : Option TextErr = Some x in o)
      (alike f g (none_sooner_of g f (gs ++ fs) (in_other_order f fs gs h.0) k.1) (none_sooner_of f g (fs ++ gs) (in_other_order g gs fs k.0) h.1))

  -- the earliest of the faults of the first list and then of the second is that of the second and then of the first
  pub either_order : least_from (least fs) gs ≡ least (gs ++ fs)
  either_order = sym (least_from_append None fs gs) ∙ same_least (least (fs ++ gs)) (least (gs ++ fs)) (least_is_least (fs ++ gs)) (least_is_least (gs ++ fs))

-- ## A fault that is held stays

-- where no fault is held after these, there are none
pub none_further : (held : Option TextErr) (fs : List TextErr) → least_from held fs ≡ None → fs ≡ []
none_further None fs e = none_least fs e
none_further (Some f) fs e = absurd (let none : f ∷ fs ≡ [] = none_least (f ∷ fs) e in cc)

-- where no fault is held after these, none was held before
pub none_before : (held : Option TextErr) (fs : List TextErr) → least_from held fs ≡ None → held ≡ None
none_before None fs e = refl
none_before (Some f) fs e = absurd (let none : f ∷ fs ≡ [] = none_least (f ∷ fs) e in cc)
