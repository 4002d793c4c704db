-- The test of terms is their equality.
use Rattle.std.proofs.Common.{◌≡◌, ℕ, List, [], ◌∷◌, map, Bool, true, false, ◌&&◌, nat_eq, refl, sym, ap, ◌∙◌, ◌⊎◌, inl, inr, ◌↔◌, IsTrue, arith}
use Rattle.std.proofs.lemmas.Bool.Decides.{nat_tests, Decides-int_eq}
use Rattle.mp_logic.specs.declared.sym.Sym.{Sym}
use Rattle.mp_term.specs.declared.term.Param.{Param}
use Rattle.mp_term.specs.declared.term.Param.TheVariants.{Num, Str}
use Rattle.mp_term.specs.declared.term.Term.{Term, Var, Op, out-Term}
use Rattle.mp_term.specs.declared.term.Term.TheOpen as layer
use Rattle.mp_term.specs.declared.term.Bound.{Bound}
use Rattle.mp_term.specs.Induction.{OfEachBody, each_term}
use Rattle.mp_term.specs.Equality.{same_param, same_params, same_term, same_bound, is_level, is_operator, each_passes}
use Rattle.mp_term.proofs.Layers.{out-Var, out-Op, same-Var, same-Op, same_bound-is, variant}

pub decided : (b : Bool) → (b ≡ true) ⊎ (b ≡ false)
decided true = inl refl
decided false = inr refl

pub both_true : (a b : Bool) → (a && b) ≡ true → (a ≡ true) × (b ≡ true)
both_true true b h = (refl, h)
both_true false b h = absurd (cc)

pub and_true : (a b : Bool) → a ≡ true → b ≡ true → (a && b) ≡ true
and_true true b h k = k
and_true false b h k = absurd (cc)

pub same_name : (a b : Sym) → nat_eq a.0 b.0 ≡ true → a ≡ b
same_name a b e = let k : a.0 ≡ b.0 = grind (arith, nat_tests) in ap (λ (n : ℕ). let s : Sym = record { 0 = n } in s) k

pub same_name-refl : (a : Sym) → nat_eq a.0 a.0 ≡ true
same_name-refl a = grind (arith, nat_tests)

pub param-same : (a b : Param) → same_param a b ≡ true → a ≡ b
param-same (Num a) (Num b) h = ap Num ((Decides-int_eq a b).0 h)
param-same (Num a) (Str b) h = absurd (cc)
param-same (Str a) (Num b) h = absurd (cc)
param-same (Str a) (Str b) h = ap Str (same_name a b h)

pub param-refl : (a : Param) → same_param a a ≡ true
param-refl (Num a) = (Decides-int_eq a a).1 refl
param-refl (Str a) = same_name-refl a

params-same : (a b : List Param) → same_params a b ≡ true → a ≡ b
params-same [] [] h = refl
params-same [] (b ∷ bs) h = absurd (cc)
params-same (a ∷ rest) [] h = absurd (cc)
params-same (a ∷ rest) (b ∷ bs) h =
    let k = both_true (same_param a b) (same_params rest bs) h in
    rw (param-same a b k.0, params-same rest bs k.1) refl

params-refl : (a : List Param) → same_params a a ≡ true
params-refl [] = refl
params-refl (a ∷ rest) = and_true (same_param a a) (same_params rest rest) (param-refl a) (params-refl rest)

abbrev IsSame : Term → Type 0
IsSame a = ((b : Term) → same_term a b ≡ true → a ≡ b) × (same_term a a ≡ true)

bound_from : (x y : Bound) → x.binders ≡ y.binders → x.body ≡ y.body → x ≡ y
bound_from x y p q = rw (p, q) refl

bodies-same : (bs xs : List Bound) → OfEachBody IsSame bs → each_passes (map same_bound bs) xs ≡ true → bs ≡ xs
bodies-same [] [] h e = refl
bodies-same [] (x ∷ xs) h e = absurd (cc)
bodies-same (b ∷ bs) [] h e = absurd (cc)
bodies-same (b ∷ bs) (x ∷ xs) h e =
    let k = both_true (same_bound b x) (each_passes (map same_bound bs) xs) e in
    let first = both_true (nat_eq b.binders x.binders) (same_term b.body x.body) (sym (same_bound-is b x) ∙ k.0) in
    let count : b.binders ≡ x.binders = let t = first.0 in grind (arith, nat_tests, t) in
    rw (bound_from b x count (h.0.0 x.body first.1), bodies-same bs xs h.1 k.1) refl

bodies-refl : (bs : List Bound) → OfEachBody IsSame bs → each_passes (map same_bound bs) bs ≡ true
bodies-refl [] h = refl
bodies-refl (b ∷ bs) h =
    and_true (same_bound b b) (each_passes (map same_bound bs) bs)
    (same_bound-is b b ∙ and_true (nat_eq b.binders b.binders) (same_term b.body b.body) (grind (arith, nat_tests)) h.0.1) (bodies-refl bs h.1)

same_var : (l : ℕ) → IsSame (Var l)
same_var l = (to, sym (sym (same-Var l (Var l))) ∙ ap (is_level l) (out-Var l) ∙ grind (arith, nat_tests)) where
  to : (b : Term) → same_term (Var l) b ≡ true → Var l ≡ b
  to b e = elim (variant b) [
    | inl v ↦
        let k : is_level l (layer.Var v.0) ≡ true = ap (is_level l) (sym (ap out-Term v.1 ∙ out-Var v.0)) ∙ sym (same-Var l b) ∙ e in
        let same : l ≡ v.0 = grind (arith, nat_tests, k) in
        ap Var same ∙ sym v.1
    | inr o ↦
        let k : is_level l (layer.Op o.0 o.1 o.2) ≡ true = ap (is_level l) (sym (ap out-Term o.3 ∙ out-Op o.0 o.1 o.2)) ∙ sym (same-Var l b) ∙ e in
        absurd (cc)
  ]

same_op : (o : Sym) (ps : List Param) (bs : List Bound) → OfEachBody IsSame bs → IsSame (Op o ps bs)
same_op o ps bs h = (to, itself) where
  to : (b : Term) → same_term (Op o ps bs) b ≡ true → Op o ps bs ≡ b
  to b e = elim (variant b) [
    | inl v ↦
        let k : is_operator o ps (map same_bound bs) (layer.Var v.0) ≡ true =
        ap (is_operator o ps (map same_bound bs)) (sym (ap out-Term v.1 ∙ out-Var v.0)) ∙ sym (same-Op o ps bs b) ∙ e in
        absurd (cc)
    | inr w ↦
        let k : is_operator o ps (map same_bound bs) (layer.Op w.0 w.1 w.2) ≡ true =
        ap (is_operator o ps (map same_bound bs)) (sym (ap out-Term w.3 ∙ out-Op w.0 w.1 w.2)) ∙ sym (same-Op o ps bs b) ∙ e in
        let a = both_true (nat_eq o.0 w.0.0 && same_params ps w.1) (each_passes (map same_bound bs) w.2) k in
        let c = both_true (nat_eq o.0 w.0.0) (same_params ps w.1) a.0 in
        rw (same_name o w.0 c.0, params-same ps w.1 c.1, bodies-same bs w.2 h a.1) (sym w.3)
  ]

  itself : same_term (Op o ps bs) (Op o ps bs) ≡ true
  itself =
      same-Op o ps bs (Op o ps bs) ∙ ap (is_operator o ps (map same_bound bs)) (out-Op o ps bs)
      ∙ and_true (nat_eq o.0 o.0 && same_params ps ps) (each_passes (map same_bound bs) bs)
      (and_true (nat_eq o.0 o.0) (same_params ps ps) (same_name-refl o) (params-refl ps)) (bodies-refl bs h)

is_same : (a : Term) → IsSame a
is_same = each_term IsSame same_var same_op

pub term-same : (a b : Term) → same_term a b ≡ true → a ≡ b
term-same a b e = (is_same a).0 b e

pub term-refl : (a : Term) → same_term a a ≡ true
term-refl a = (is_same a).1

-- an answer to whether terms are equal is the test's
pub same-tested : (r : Bool) (a b : Term) → (IsTrue r ↔ (a ≡ b)) → r ≡ same_term a b
same-tested true a b h = let e = h.0 refl in sym (rw e (term-refl b))
same-tested false a b h = elim (decided (same_term a b)) [
  | inl yes' ↦ absurd (let k = h.1 (term-same a b yes') in cc)
  | inr no' ↦ sym no'
]

pub same_param-tested : (r : Bool) (a b : Param) → (IsTrue r ↔ (a ≡ b)) → r ≡ same_param a b
same_param-tested true a b h = let e = h.0 refl in sym (rw e (param-refl b))
same_param-tested false a b h = elim (decided (same_param a b)) [
  | inl yes' ↦ absurd (let k = h.1 (param-same a b yes') in cc)
  | inr no' ↦ sym no'
]
