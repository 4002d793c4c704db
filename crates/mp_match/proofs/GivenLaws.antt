-- What giving a value asks and does.
use Rattle.std.proofs.Common.{◌≡◌, ℕ, ◌+◌, ◌<◌, ◌≤◌, List, [], ◌∷◌, ◌++◌, length, map, Bool, true, false, ◌||◌, nat_eq, IsTrue, All, Option, Some, None, inl, inr, refl, sym, ap, ◌∙◌, arith}
use Rattle.std.specs.Prelude.{◌↔◌, if◌then◌else◌}
use Rattle.std.specs.List.{IsDistinct}
use Rattle.std.proofs.lemmas.Bool.{cases_lt}
use Rattle.std.proofs.lemmas.Grind.{common_steps}
use Rattle.mp_logic.specs.declared.sym.Sym.{Sym}
use Rattle.mp_term.specs.declared.term.Param.{Param}
use Rattle.mp_term.specs.declared.term.Term.{Term, Var, Op}
use Rattle.mp_term.specs.declared.term.Bound.{Bound}
use Rattle.mp_term.specs.Induction.{OfEachBody, each_term}
use Rattle.mp_term.specs.Terms.{in_scope_of}
use Rattle.mp_term.specs.Subst.{widest_of, widest_at, width_bound, unrenamed, is_listed, IsRenaming, IsFoundWhereListed, upto}
use Rattle.mp_term.proofs.Layers.{widest-Var, widest-Op}
use Rattle.mp_term.proofs.Renaming.{few_levels}
use Rattle.mp_term.proofs.FreeVariables.{found_where_listed}
use Rattle.mp_schema.specs.declared.instance.Inst.{Inst}
use Rattle.mp_schema.specs.Values.{find_meta, body_or, variables_of}
use Rattle.mp_match.specs.Giving.{given_levels, with_value, given_to, IsGiven, NamesOnly}
use Rattle.mp_term.proofs.Ranges.{listed-upto, not-listed-upto}
use Rattle.mp_schema.proofs.Apart.{Apart-from, Apart-to, Below-from, Below-to, Apart-append, Below-append, Below-more, Apart-upto, Below-upto, Below-Differ-upto}
use Rattle.mp_match.proofs.Solving.{meta-new}
use Rattle.mp_match.proofs.Steps.{renaming-is}

-- a term's widest scope is at least its own
widest_at-ge : (n : ℕ) (bs : List Bound) → n ≤ widest_at n (map width_bound bs)
widest_at-ge n [] = omega arith
widest_at-ge n (b ∷ bs) = let r = widest_at-ge n bs in omega (arith, r)

abbrev IsWide : Term → Type 0
IsWide t = (n : ℕ) → n ≤ widest_of t n

wide_var : (l : ℕ) → IsWide (Var l)
wide_var l n = rw widest-Var (omega arith)

wide_op : (o : Sym) (ps : List Param) (bs : List Bound) → OfEachBody IsWide bs → IsWide (Op o ps bs)
wide_op o ps bs _ n = rw widest-Op (widest_at-ge n bs)

pub widest-ge : (t : Term) (n : ℕ) → n ≤ widest_of t n
widest-ge = each_term IsWide wide_var wide_op

-- ## Listed variables

listed-append : (i : ℕ) (xs ys : List ℕ) → is_listed i (xs ++ ys) ≡ (is_listed i xs || is_listed i ys)
listed-append i [] ys = refl
listed-append i (x ∷ xs) ys = let r = listed-append i xs ys in grind (arith, common_steps, r)

or_false : (a b : Bool) → (a || b) ≡ false → (a ≡ false) × (b ≡ false)
or_false true b h = absurd (cc)
or_false false b h = (refl, h)

or_first : (a b : Bool) → (a || b) ≡ true → b ≡ false → a ≡ true
or_first true b h k = refl
or_first false b h k = absurd (cc)

module _ (vars : List ℕ) (arity : ℕ) (body : Term) where
  abbrev levels : List ℕ
  levels = vars ++ upto 200 arity

  -- where nothing gives the body, it names another hypothesis
  pub named-none : IsFoundWhereListed levels (200 + arity) body None → NamesOnly vars body → ⊥
  named-none h only =
      let i = h.0 in
      let apart = or_false (is_listed i vars) (is_listed i (upto 200 arity)) (sym (listed-append i vars (upto 200 arity)) ∙ h.1.2) in
      elim (cases_lt i 200) [
        | inl low ↦ let k = only i low h.1.1 in let k' = apart.0 in absurd (cc)
        | inr high ↦ let inside = h.1.0 in let k = listed-upto i 200 arity high inside in let k' = apart.1 in absurd (cc)
      ]

  pub named-some : (u : Term) → IsFoundWhereListed levels (200 + arity) body (Some u) → NamesOnly vars body
  named-some u h i low stands =
      let k = h i (omega arith) stands in
      or_first (is_listed i vars) (is_listed i (upto 200 arity)) (sym (listed-append i vars (upto 200 arity)) ∙ k) (not-listed-upto i 200 arity low)

  module _ (distinct : IsDistinct nat_eq vars) (below : All (λ l. l < 200) vars) where
    pub given-distinct : IsDistinct nat_eq levels
    given-distinct = Apart-to levels (Apart-append vars (upto 200 arity) (Apart-from vars distinct) (Apart-upto 200 arity)
        (Below-Differ-upto 200 arity vars (Below-from 200 vars below)))

    pub given-below : All (λ l. l < 200 + arity) levels
    given-below = Below-to (200 + arity) levels (Below-append vars (upto 200 arity) (200 + arity)
        (Below-more 200 (200 + arity) vars (omega arith) (Below-from 200 vars below)) (Below-upto 200 arity))

    pub given-few : length levels ≤ 200 + arity
    given-few = few_levels levels (200 + arity) given-distinct given-below

-- ## The new instance

module _ (i : Inst) (name : Sym) (ctxs : List Sym) (arity : ℕ) (body : Term) (distinct : IsDistinct nat_eq (variables_of i.ctxs ctxs))
    (below : All (λ l. l < 200) (variables_of i.ctxs ctxs)) (scoped : IsTrue (in_scope_of body (200 + arity))) where
  abbrev all : List ℕ
  all = given_levels i.ctxs ctxs arity

  is_unrenamed : (r : Option Term) → IsRenaming all (200 + arity) body r → unrenamed all (200 + arity) body ≡ r
  is_unrenamed = renaming-is all (200 + arity) body (given-distinct (variables_of i.ctxs ctxs) arity body distinct below)
      (given-below (variables_of i.ctxs ctxs) arity body distinct below) scoped

  given-some : (u : Term) (new : Inst) → IsRenaming all (200 + arity) body (Some u) → new ≡ with_value i name (length all) u → Some new ≡ given_to i name ctxs arity body
  given-some u new h is = let e = is_unrenamed (Some u) h in rw (e, is) refl

  given-none : (r : Option Term) → unrenamed all (200 + arity) body ≡ r → (NamesOnly (variables_of i.ctxs ctxs) body → ⊥) → None ≡ given_to i name ctxs arity body
  given-none None e more = rw e refl
  given-none (Some u) e more =
      absurd (more (named-some (variables_of i.ctxs ctxs) arity body u (found_where_listed all (200 + arity) body (Some u) (sym e))))

  -- what giving answers, as a function
  pub given-is : (new : Inst) (done : Bool) → (IsTrue done → IsGiven i name ctxs arity body new) → (IsTrue done ↔ NamesOnly (variables_of i.ctxs ctxs) body) →
      (if done then Some new else None) ≡ given_to i name ctxs arity body
  given-is new true given named = let g = given refl in given-some g.value new g.renaming g.added
  given-is new false given named = given-none (unrenamed all (200 + arity) body) refl (λ only. let t = named.1 only in absurd (cc))

  pub is-given : (u : Term) (new : Inst) → find_meta i.metas name ≡ None → IsRenaming all (200 + arity) body (Some u) → new ≡ with_value i name (length all) u →
      IsGiven i name ctxs arity body new
  is-given u new fresh h is = record {
    value = u;
    added = is;
    here = rw is (ap body_or (meta-new i.metas (record { name = name; scope = length all; body = u }) fresh));
    renaming = h;
  }
