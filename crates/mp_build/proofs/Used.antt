-- Only those arguments count that stand in a term.
use Rattle.std.proofs.Common.{◌≡◌, ℕ, ◌+◌, ◌≤◌, List, [], ◌∷◌, map, get_or, zero, suc, sum, IsTrue, Bool, true, false, refl, inl, inr, ◌⊎◌, arith}
use Rattle.std.proofs.lemmas.Bool.Decides.{nat_tests}
use Rattle.std.proofs.lemmas.Grind.{common_steps}
use Rattle.mp_logic.specs.declared.sym.Sym.{Sym}
use Rattle.mp_term.specs.declared.term.Param.{Param}
use Rattle.mp_term.specs.declared.term.Term.{Term, Var, Op}
use Rattle.mp_term.specs.declared.term.Bound.{Bound}
use Rattle.mp_term.specs.Induction.{OfEachBody, each_term}
use Rattle.mp_logic.specs.Lists.{greatest}
use Rattle.mp_term.specs.Subst.{occurs_in, any_true}
use Rattle.mp_term.specs.Sizes.{sub_size, sub_size_bound, sub_depth, sub_depth_bound}
use Rattle.mp_term.proofs.Layers.{sub_size-Var, sub_size-Op, sub_size_bound-is, sub_depth-Var, sub_depth-Op, sub_depth_bound-is, occurs_bound, occurs-Var, occurs-Op, occurs_bound-is}
use Rattle.mp_schema.specs.declared.pattern.Pattern.{Pattern}
use Rattle.mp_build.specs.Sizes.{behind_ones, used_from}

-- a variable of the first body, and one of a later body, stands in the row
pub stands_first : (i : ℕ) (b : Bound) (bs : List Bound) → IsTrue (occurs_in i b.body) → IsTrue (any_true (map (occurs_bound i) (b ∷ bs)))
stands_first i b bs h = let e = occurs_bound-is i b in let h' : IsTrue (occurs_bound i b) = rw e h in grind (arith, common_steps, h')

pub stands_later : (i : ℕ) (b : Bound) (bs : List Bound) → IsTrue (any_true (map (occurs_bound i) bs)) → IsTrue (any_true (map (occurs_bound i) (b ∷ bs)))
stands_later i b bs h = grind (arith, common_steps, h)

pub stands_here : (i : ℕ) → IsTrue (occurs_in i (Var i))
stands_here i = rw occurs-Var (grind (arith, nat_tests))

-- the lists agree where a variable stands in the term
abbrev pub AgreeIn : List ℕ → List ℕ → (ℕ → Bool) → Type 0
AgreeIn xs ys stands = (i : ℕ) → IsTrue (stands i) → get_or xs i 1 ≡ get_or ys i 1

module _ (xs ys : List ℕ) where
  abbrev IsSameSize : Term → Type 0
  IsSameSize t = AgreeIn xs ys (λ i. occurs_in i t) → sub_size xs t ≡ sub_size ys t

  same_size_bounds : (bs : List Bound) → OfEachBody IsSameSize bs → AgreeIn xs ys (λ i. any_true (map (occurs_bound i) bs)) → map (sub_size_bound xs) bs ≡ map (sub_size_bound ys) bs
  same_size_bounds [] h same = refl
  same_size_bounds (b ∷ bs) h same =
      let first : sub_size_bound xs b ≡ sub_size_bound ys b = rw (sub_size_bound-is xs b, sub_size_bound-is ys b) (h.0 (λ i stands. same i (stands_first i b bs stands))) in
      let rest = same_size_bounds bs h.1 (λ i stands. same i (stands_later i b bs stands)) in rw (first, rest) refl

  same_size_var : (i : ℕ) → IsSameSize (Var i)
  same_size_var i same = rw (sub_size-Var xs i, sub_size-Var ys i) (same i (stands_here i))

  same_size_op : (o : Sym) (ps : List Param) (bs : List Bound) → OfEachBody IsSameSize bs → IsSameSize (Op o ps bs)
  same_size_op o ps bs h same =
      let row = same_size_bounds bs h (λ i stands. same i (rw (occurs-Op i o ps bs) stands)) in
      rw (sub_size-Op xs o ps bs, sub_size-Op ys o ps bs, row) refl

  pub same_size : (t : Term) → IsSameSize t
  same_size = each_term IsSameSize same_size_var same_size_op

  abbrev IsSameDepth : Term → Type 0
  IsSameDepth t = AgreeIn xs ys (λ i. occurs_in i t) → sub_depth xs t ≡ sub_depth ys t

  same_depth_bounds : (bs : List Bound) → OfEachBody IsSameDepth bs → AgreeIn xs ys (λ i. any_true (map (occurs_bound i) bs)) → map (sub_depth_bound xs) bs ≡ map (sub_depth_bound ys) bs
  same_depth_bounds [] h same = refl
  same_depth_bounds (b ∷ bs) h same =
      let first : sub_depth_bound xs b ≡ sub_depth_bound ys b = rw (sub_depth_bound-is xs b, sub_depth_bound-is ys b) (h.0 (λ i stands. same i (stands_first i b bs stands))) in
      let rest = same_depth_bounds bs h.1 (λ i stands. same i (stands_later i b bs stands)) in rw (first, rest) refl

  same_depth_var : (i : ℕ) → IsSameDepth (Var i)
  same_depth_var i same = rw (sub_depth-Var xs i, sub_depth-Var ys i) (same i (stands_here i))

  same_depth_op : (o : Sym) (ps : List Param) (bs : List Bound) → OfEachBody IsSameDepth bs → IsSameDepth (Op o ps bs)
  same_depth_op o ps bs h same =
      let row = same_depth_bounds bs h (λ i stands. same i (rw (occurs-Op i o ps bs) stands)) in
      rw (sub_depth-Op xs o ps bs, sub_depth-Op ys o ps bs, row) refl

  pub same_depth : (t : Term) → IsSameDepth t
  same_depth = each_term IsSameDepth same_depth_var same_depth_op

-- what stands in a term is no larger and no deeper than the term
module _ (xs : List ℕ) (i : ℕ) where
  abbrev IsPart : Term → Type 0
  IsPart t = IsTrue (occurs_in i t) → (get_or xs i 1 ≤ sub_size xs t)

  stands_somewhere : (b : Bound) (bs : List Bound) (yes' : Bool) → occurs_bound i b ≡ yes' → IsTrue (any_true (map (occurs_bound i) (b ∷ bs))) →
      IsTrue (occurs_in i b.body) ⊎ IsTrue (any_true (map (occurs_bound i) bs))
  stands_somewhere b bs true is h = inl (rw (occurs_bound-is i b) at is)
  stands_somewhere b bs false is h = inr (grind (arith, common_steps, h, is))

  part_bounds : (bs : List Bound) → OfEachBody IsPart bs → IsTrue (any_true (map (occurs_bound i) bs)) → get_or xs i 1 ≤ sum (map (sub_size_bound xs) bs)
  part_bounds [] h stands = absurd (cc)
  part_bounds (b ∷ bs) h stands =
      let own = sub_size_bound-is xs b in
      let e : sum (map (sub_size_bound xs) (b ∷ bs)) ≡ sub_size_bound xs b + sum (map (sub_size_bound xs) bs) = grind (arith, common_steps) in
      elim (stands_somewhere b bs (occurs_bound i b) refl stands) [
        | inl first ↦ let small = h.0 first in omega (arith, small, own, e)
        | inr later ↦ let small = part_bounds bs h.1 later in omega (arith, small, own, e)
      ]

  same_level : (j : ℕ) → IsTrue (occurs_in i (Var j)) → j ≡ i
  same_level j stands = let test = rw occurs-Var at stands in grind (arith, nat_tests, test)

  part_var : (j : ℕ) → IsPart (Var j)
  part_var j stands = let e = same_level j stands in let own = sub_size-Var xs j in rw (own, e) (omega arith)

  part_op : (o : Sym) (ps : List Param) (bs : List Bound) → OfEachBody IsPart bs → IsPart (Op o ps bs)
  part_op o ps bs h stands =
      let small = part_bounds bs h (rw (occurs-Op i o ps bs) at stands) in
      let own = sub_size-Op xs o ps bs in omega (arith, small, own)

  pub part_size : (t : Term) → IsPart t
  part_size = each_term IsPart part_var part_op

  abbrev IsShallowPart : Term → Type 0
  IsShallowPart t = IsTrue (occurs_in i t) → (get_or xs i 1 ≤ sub_depth xs t)

  deep_bounds : (bs : List Bound) → OfEachBody IsShallowPart bs → IsTrue (any_true (map (occurs_bound i) bs)) → get_or xs i 1 ≤ greatest (map (sub_depth_bound xs) bs)
  deep_bounds [] h stands = absurd (cc)
  deep_bounds (b ∷ bs) h stands =
      let own = sub_depth_bound-is xs b in
      elim (stands_somewhere b bs (occurs_bound i b) refl stands) [
        | inl first ↦ let small = h.0 first in omega (arith, small, own)
        | inr later ↦ let small = deep_bounds bs h.1 later in omega (arith, small, own)
      ]

  deep_var : (j : ℕ) → IsShallowPart (Var j)
  deep_var j stands = let e = same_level j stands in let own = sub_depth-Var xs j in rw (own, e) (omega arith)

  deep_op : (o : Sym) (ps : List Param) (bs : List Bound) → OfEachBody IsShallowPart bs → IsShallowPart (Op o ps bs)
  deep_op o ps bs h stands =
      let small = deep_bounds bs h (rw (occurs-Op i o ps bs) at stands) in
      let own = sub_depth-Op xs o ps bs in omega (arith, small, own)

  pub part_depth : (t : Term) → IsShallowPart t
  part_depth = each_term IsShallowPart deep_var deep_op

agree_behind : (ones : ℕ) (xs ys : List ℕ) (stands : ℕ → Bool) → ((j : ℕ) → IsTrue (stands (ones + j)) → get_or xs j 1 ≡ get_or ys j 1) →
    AgreeIn (behind_ones ones xs) (behind_ones ones ys) stands
agree_behind zero xs ys stands same i h = let e : 0 + i ≡ i = omega arith in same i (rw e h)
agree_behind (suc n) xs ys stands same zero h = refl
agree_behind (suc n) xs ys stands same (suc i) h =
    agree_behind n xs ys (λ k. stands (suc k)) (λ j h'. let e : suc n + j ≡ suc (n + j) = omega arith in same j (rw e h')) i h

module _ (f : Pattern → ℕ) (t : Term) where
  used-at : (level : ℕ) (args : List Pattern) (i : ℕ) → IsTrue (occurs_in (level + i) t) → get_or (used_from f t level args) i 1 ≡ get_or (map f args) i 1
  used-at level [] i stands = refl
  used-at level (a ∷ args) zero stands =
      let e : level + 0 ≡ level = omega arith in
      let here = rw e at stands in
      rw here refl
  used-at level (a ∷ args) (suc i) stands =
      let e : level + suc i ≡ level + 1 + i = omega arith in
      used-at (level + 1) args i (rw e at stands)

  -- behind ones, the used arguments agree with all of them
  pub used_agree : (before : ℕ) (args : List Pattern) → AgreeIn (behind_ones before (used_from f t before args)) (behind_ones before (map f args)) (λ i. occurs_in i t)
  used_agree before args = agree_behind before (used_from f t before args) (map f args) (λ i. occurs_in i t) (used-at before args)

  -- a used argument counts in the term
  pub at_behind : (ones : ℕ) (xs : List ℕ) (j : ℕ) → get_or (behind_ones ones xs) (ones + j) 1 ≡ get_or xs j 1
  at_behind zero xs j = let e : 0 + j ≡ j = omega arith in rw e refl
  at_behind (suc n) xs j = let e : suc n + j ≡ suc (n + j) = omega arith in rw e (at_behind n xs j)
