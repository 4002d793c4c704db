-- The contexts take the hypotheses that the named ones leave.
use Rattle.std.proofs.Common.{◌≡◌, ℕ, ◌+◌, ◌-◌, ◌≤◌, List, [], ◌∷◌, length, zero, suc, true, ◌&&◌, nat_lt, nat_le, nat_eq, IsTrue, IsSome, ◌↔◌, Option, Some, None, inl, inr, refl, ap, ◌∙◌, arith}
use Rattle.std.proofs.lemmas.Bool.Decides.{nat_tests}
use Rattle.mp_logic.specs.declared.sym.Sym.{Sym}
use Rattle.mp_schema.specs.declared.schema.Item.{Item}
use Rattle.mp_schema.specs.declared.schema.Item.TheVariants.{Ctx, Hyp}
use Rattle.mp_schema.specs.declared.schema.Schema.{Schema}
use Rattle.mp_schema.specs.Conditions.{contexts_among, context_names, has_two_contexts, is_conclusion, is_placed, is_fine, is_framed}
use Rattle.mp_match.specs.declared.sizes.Sizes.{Sizes}
use Rattle.mp_match.specs.Walks.{named_in, shared, sizes_of, needed}
use Rattle.mp_term.proofs.EqualTerms.{both_true, decided}

-- what so many contexts take
abbrev spent : ℕ → ℕ → ℕ → ℕ
spent zero a b = 0
spent (suc k) a b = a + spent k b b

needed-is : (items : List Item) (a b : ℕ) → needed items a b ≡ named_in items + spent (length (contexts_among items)) a b
needed-is [] a b = refl
needed-is (Hyp p ∷ is) a b = let e = needed-is is a b in omega (arith, e)
needed-is (Ctx name names args ∷ is) a b = let e = needed-is is b b in omega (arith, e)

-- so many contexts are given the size of the first exactly where there are two
abbrev pub GivenTwo : ℕ → Option ℕ → Type 0
GivenTwo contexts first = (contexts ≤ 2) × (IsSome first ↔ (contexts ≡ 2))

shared-spent : (names : List Sym) (first : Option ℕ) (left : ℕ) (sizes : Sizes) → GivenTwo (length names) first → shared names first left ≡ Some sizes →
    spent (length names) sizes.first sizes.later ≡ left
shared-spent [] first zero sizes g e = refl
shared-spent [] first (suc left) sizes g e = absurd (cc)
shared-spent (c ∷ []) None left sizes g e =
    let is : sizes ≡ record { first = left; later = 0 } = cc in
    let k : sizes.first ≡ left = ap (λ (s : Sizes). s.first) is in omega (arith, k)
shared-spent (c ∷ []) (Some first) left sizes g e = let two = g.1.0 refl in absurd (omega (arith, two))
shared-spent (c ∷ d ∷ names) None left sizes g e = let two = g.1.1 (let le = g.0 in omega (arith, le)) in absurd (cc)
shared-spent (c ∷ d ∷ []) (Some first) left sizes g e = elim (decided (nat_lt left first)) [
  | inl less ↦ absurd (let k = rw less at e in cc)
  | inr more ↦
      let k = rw more at e in
      let is : sizes ≡ record { first = first; later = left - first } = cc in
      let a : sizes.first ≡ first = ap (λ (s : Sizes). s.first) is in
      let b : sizes.later ≡ left - first = ap (λ (s : Sizes). s.later) is in
      let le : first ≤ left = grind (arith, nat_tests, more) in
      omega (arith, a, b, le)
]
shared-spent (c ∷ d ∷ x ∷ names) (Some first) left sizes g e = absurd (let le = g.0 in omega (arith, le))

pub sizes-counted : (items : List Item) (first : Option ℕ) (hyps : ℕ) (sizes : Sizes) → GivenTwo (length (contexts_among items)) first → sizes_of items first hyps ≡ Some sizes →
    needed items sizes.first sizes.later ≡ hyps
sizes-counted items first hyps sizes g e = elim (decided (nat_lt hyps (named_in items))) [
  | inl less ↦ absurd (let k = rw less at e in cc)
  | inr more ↦
      let k = rw more at e in
      let le : named_in items ≤ hyps = grind (arith, nat_tests, more) in
      let s = shared-spent (contexts_among items) first (hyps - named_in items) sizes g k in
      needed-is items sizes.first sizes.later ∙ omega (arith, s, le)
]

-- the parts of being a conclusion
pub record IsConclusion (s : Schema) : Type 0 where
  pub placed : is_placed s ≡ true
  pub fine : is_fine s ≡ true
  pub few : length (context_names s) ≤ 2
  pub framed : is_framed s ≡ true

pub conclusion-parts : (s : Schema) → IsTrue (is_conclusion s) → IsConclusion s
conclusion-parts s h =
    let a = both_true (is_placed s && is_fine s && nat_le (length (context_names s)) 2) (is_framed s) h in
    let b = both_true (is_placed s && is_fine s) (nat_le (length (context_names s)) 2) a.0 in
    let c = both_true (is_placed s) (is_fine s) b.0 in
    let le = b.1 in
    record { placed = c.0; fine = c.1; few = grind (arith, nat_tests, le); framed = a.1 }

two-contexts : (n : ℕ) → (nat_eq n 2 ≡ true → n ≡ 2) × (n ≡ 2 → nat_eq n 2 ≡ true)
two-contexts n = ((λ h. grind (arith, nat_tests, h)), (λ h. grind (arith, nat_tests, h)))

pub given-two : (s : Schema) (first : Option ℕ) → IsTrue (is_conclusion s) → (IsSome first ↔ IsTrue (has_two_contexts s)) → GivenTwo (length (context_names s)) first
given-two s first h two =
    let c = conclusion-parts s h in
    let t = two-contexts (length (context_names s)) in
    (c.few, ((λ k. t.0 (two.0 k)), (λ k. two.1 (t.1 k))))
