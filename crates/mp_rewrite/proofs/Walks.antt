-- What is known of the subterm at an address, and of the term with another one there.
use Rattle.std.proofs.Common.{◌≡◌, ◌≤◌, ◌<◌, ℕ, ◌+◌, get_or, zero, suc, List, [], ◌∷◌, map, length, max, true, Option, Some, None, inl, inr, refl, sym, ap, ◌∙◌, subst, arith}
use Rattle.std.specs.Prelude.{slice_get, option_and_then, nat_le}
use Rattle.std.proofs.lemmas.Option.{slice_get_read}
use Rattle.mp_logic.specs.declared.sym.Sym.{Sym}
use Rattle.mp_term.specs.declared.term.Param.{Param}
use Rattle.mp_term.specs.declared.term.Term.{Term, Op, out-Term}
use Rattle.mp_term.specs.declared.term.Bound.{Bound}
use Rattle.mp_term.specs.Terms.{size_of, depth_of, in_scope_of, all_at_scope, all_true}
use Rattle.mp_term.specs.Limits.{few_binders_of}
use Rattle.mp_term.specs.Subst.{widest_of, widest_at, width_bound}
use Rattle.mp_term.proofs.EqualTerms.{both_true, and_true}
use Rattle.mp_term.proofs.Layers.{size_bound, size-Op, size_bound-is, depth_bound, depth-Op, depth_bound-is, scoped_bound, in_scope-Op, scoped_bound-is, few_bound, few-Op, few_bound-is, widest-Op, width_bound-is, out-Var, out-Op, Variant, variant}
use Rattle.mp_schema.proofs.Lists.{value_or}
use Rattle.mp_rewrite.specs.Addresses.{Subterm, bound_in, subterm_at, changed_at, with_body, layer_with, put_at}
use Rattle.mp_rewrite.proofs.Lists.{changed-past, changed-same, sum-changed, item-in-sum, greatest-changed, changed-low, item-low}

-- ## One step of an address

-- the operator and the bound subterm that the first step passes
pub record Into (number : ℕ) (address : List ℕ) (scope : ℕ) (t : Term) (at : Subterm) : Type 0 where
  pub o : Sym
  pub ps : List Param
  pub bs : List Bound
  pub b : Bound
  pub is : t ≡ Op o ps bs
  pub here : slice_get bs number ≡ Some b
  pub there : subterm_at address (scope + b.binders) b.body ≡ Some at

-- the subterm at the rest of the address in a bound subterm
abbrev pub next_in : List ℕ → ℕ → Bound → Option Subterm
next_in address scope b = subterm_at address (scope + b.binders) b.body

pub into : (number : ℕ) (address : List ℕ) (scope : ℕ) (t : Term) (at : Subterm) → subterm_at (number ∷ address) scope t ≡ Some at → Into number address scope t at
into number address scope t at e = by (variant t)
  where
    through : (o : Sym) (ps : List Param) (bs : List Bound) → t ≡ Op o ps bs → (r : Option Bound) → slice_get bs number ≡ r → option_and_then (next_in address scope) r ≡ Some at → Into number address scope t at
    through o ps bs is None here k = absurd cc
    through o ps bs is (Some b) here k = record { o = o; ps = ps; bs = bs; b = b; is = is; here = here; there = k }

    by : Variant t → Into number address scope t at
    by (inl v) =
        let k : None ≡ Some at = sym (ap (λ x. option_and_then (next_in address scope) (bound_in number x)) (ap out-Term v.1 ∙ out-Var v.0)) ∙ e in
        absurd cc
    by (inr v) =
        let k : option_and_then (next_in address scope) (slice_get v.2 number) ≡ Some at =
        sym (ap (λ x. option_and_then (next_in address scope) (bound_in number x)) (ap out-Term v.3 ∙ out-Op v.0 v.1 v.2)) ∙ e in
        through v.0 v.1 v.2 v.3 (slice_get v.2 number) refl k

-- another subterm changes the body of one bound subterm
pub put-Op : (number : ℕ) (address : List ℕ) (new t : Term) (o : Sym) (ps : List Param) (bs : List Bound) → t ≡ Op o ps bs →
    put_at (number ∷ address) new t ≡ Op o ps (changed_at number (with_body (put_at address new)) bs)
put-Op number address new t o ps bs is = ap (layer_with number (put_at address new)) (ap out-Term is ∙ out-Op o ps bs)

module _ (address : List ℕ) (number : ℕ) (rest : List ℕ) (steps : address ≡ number ∷ rest) (new t : Term) (o : Sym) (ps : List Param) (bs : List Bound) (is : t ≡ Op o ps bs) where
  put-is : put_at address new t ≡ Op o ps (changed_at number (with_body (put_at rest new)) bs)
  put-is = ap (λ a. put_at a new t) steps ∙ put-Op number rest new t o ps bs is

  -- where there is no such subterm, nothing changes
  pub put-past : length bs ≤ number → put_at address new t ≡ t
  put-past h = put-is ∙ ap (Op o ps) (changed-past (with_body (put_at rest new)) bs number h) ∙ sym is

  -- the operator with another body in one bound subterm
  pub put-made : (b : Bound) (body : Term) (params : List Param) (subs : List Bound) → number < length bs → b ≡ get_or bs number b → body ≡ put_at rest new b.body →
      subs ≡ changed_at number (with_body (λ old. body)) bs → params ≡ ps → Op o params subs ≡ put_at address new t
  put-made b body params subs lt b_is body_is subs_are same =
      let at : slice_get bs number ≡ Some b = slice_get_read bs (length bs) number b refl lt b_is in
      let made : with_body (λ old. body) b ≡ with_body (put_at rest new) b = ap (λ x. with_body (λ old. x) b) body_is in
      ap (λ xs. Op o xs subs) same ∙ ap (Op o ps) (subs_are ∙ changed-same (with_body (λ old. body)) (with_body (put_at rest new)) bs number b at made) ∙ sym put-is

-- ## Tests of bound subterms

scope-item : (m : ℕ) (bs : List Bound) (n : ℕ) (b : Bound) → slice_get bs n ≡ Some b → all_at_scope m (map scoped_bound bs) ≡ true → scoped_bound b m ≡ true
scope-item m [] n b at e = absurd cc
scope-item m (c ∷ bs) zero b at e =
    let k : c ≡ b = ap (value_or c) at in subst (λ x. scoped_bound x m ≡ true) k (both_true (scoped_bound c m) (all_at_scope m (map scoped_bound bs)) e).0
scope-item m (c ∷ bs) (suc n) b at e = scope-item m bs n b at (both_true (scoped_bound c m) (all_at_scope m (map scoped_bound bs)) e).1

few-item : (bs : List Bound) (n : ℕ) (b : Bound) → slice_get bs n ≡ Some b → all_true (map few_bound bs) ≡ true → few_bound b ≡ true
few-item [] n b at e = absurd cc
few-item (c ∷ bs) zero b at e =
    let k : c ≡ b = ap (value_or c) at in subst (λ x. few_bound x ≡ true) k (both_true (few_bound c) (all_true (map few_bound bs)) e).0
few-item (c ∷ bs) (suc n) b at e = few-item bs n b at (both_true (few_bound c) (all_true (map few_bound bs)) e).1

pub width-item : (m : ℕ) (bs : List Bound) (n : ℕ) (b : Bound) → slice_get bs n ≡ Some b → width_bound b m ≤ widest_at m (map width_bound bs)
width-item m [] n b at = absurd cc
width-item m (c ∷ bs) zero b at = let k : c ≡ b = ap (value_or c) at in rw (← k) (omega arith)
width-item m (c ∷ bs) (suc n) b at = let ih = width-item m bs n b at in omega (arith, ih)

module _ (f : Bound → Bound) where
  scope-changed : (m : ℕ) (bs : List Bound) (n : ℕ) (b : Bound) → slice_get bs n ≡ Some b → all_at_scope m (map scoped_bound bs) ≡ true → scoped_bound (f b) m ≡ true →
      all_at_scope m (map scoped_bound (changed_at n f bs)) ≡ true
  scope-changed m [] n b at e h = absurd cc
  scope-changed m (c ∷ bs) zero b at e h =
      let k : c ≡ b = ap (value_or c) at in
      and_true (scoped_bound (f c) m) (all_at_scope m (map scoped_bound bs)) (ap (λ x. scoped_bound (f x) m) k ∙ h) (both_true (scoped_bound c m) (all_at_scope m (map scoped_bound bs)) e).1
  scope-changed m (c ∷ bs) (suc n) b at e h =
      let k = both_true (scoped_bound c m) (all_at_scope m (map scoped_bound bs)) e in
      and_true (scoped_bound c m) (all_at_scope m (map scoped_bound (changed_at n f bs))) k.0 (scope-changed m bs n b at k.1 h)

  few-changed : (bs : List Bound) (n : ℕ) (b : Bound) → slice_get bs n ≡ Some b → all_true (map few_bound bs) ≡ true → few_bound (f b) ≡ true → all_true (map few_bound (changed_at n f bs)) ≡ true
  few-changed [] n b at e h = absurd cc
  few-changed (c ∷ bs) zero b at e h =
      let k : c ≡ b = ap (value_or c) at in
      and_true (few_bound (f c)) (all_true (map few_bound bs)) (ap (λ x. few_bound (f x)) k ∙ h) (both_true (few_bound c) (all_true (map few_bound bs)) e).1
  few-changed (c ∷ bs) (suc n) b at e h =
      let k = both_true (few_bound c) (all_true (map few_bound bs)) e in
      and_true (few_bound c) (all_true (map few_bound (changed_at n f bs))) k.0 (few-changed bs n b at k.1 h)

-- ## The subterm

-- the subterm's scope is no narrower, it is in this scope, and it is no wider and no deeper than the term
pub record IsInside (address : List ℕ) (scope : ℕ) (t : Term) (at : Subterm) : Type 0 where
  pub outer : scope ≤ at.scope
  pub scoped : in_scope_of t scope ≡ true → in_scope_of at.term at.scope ≡ true
  pub narrow : widest_of at.term at.scope ≤ widest_of t scope
  pub few : few_binders_of t ≡ true → few_binders_of at.term ≡ true
  pub deep : length address + depth_of at.term ≤ depth_of t
  pub part : size_of at.term ≤ size_of t

here-is : (scope : ℕ) (t : Term) (at : Subterm) → subterm_at [] scope t ≡ Some at → record { term = t; scope = scope } ≡ at
here-is scope t at e = ap (value_or at) e

pub inside : (address : List ℕ) (scope : ℕ) (t : Term) (at : Subterm) → subterm_at address scope t ≡ Some at → IsInside address scope t at
inside [] scope t at e =
    let itself : Subterm = record { term = t; scope = scope } in
    subst (IsInside [] scope t) (here-is scope t at e) (let k : IsInside [] scope t itself = record { outer = omega arith; scoped = λ h. h; narrow = omega arith; few = λ h. h; deep = omega arith; part = omega arith } in k)
inside (number ∷ address) scope t at e =
    let i = into number address scope t at e in
    let ih = inside address (scope + i.b.binders) i.b.body at i.there in
    let o = i.o in
    let ps = i.ps in
    let bs = i.bs in
    let b = i.b in
    subst (λ x. IsInside (number ∷ address) scope x at) (sym i.is) (record {
      outer = let k = ih.outer in omega (arith, k);
      scoped = λ h. ih.scoped (sym (scoped_bound-is b scope) ∙ scope-item scope bs number b i.here (sym (in_scope-Op o ps bs scope) ∙ h));
      narrow =
          let k = ih.narrow in
          let w = width-item scope bs number b i.here in
          let x = width_bound-is b scope in
          let y = widest-Op o ps bs scope in
          omega (arith, k, w, x, y);
      few = λ h. ih.few (both_true (nat_le b.binders 8) (few_binders_of b.body) (sym (few_bound-is b) ∙ few-item bs number b i.here (sym (few-Op o ps bs) ∙ h))).1;
      deep =
          let k = ih.deep in
          let w = item-low depth_bound bs number b i.here in
          let x = depth_bound-is b in
          let y = depth-Op o ps bs in
          omega (arith, k, w, x, y);
      part =
          let k = ih.part in
          let w = item-in-sum size_bound bs number b i.here in
          let x = size_bound-is b in
          let y = size-Op o ps bs in
          omega (arith, k, w, x, y);
    })

-- ## Another subterm

-- the term with another subterm: its size, its depth, its scope and its binders
pub record IsPut (address : List ℕ) (scope : ℕ) (t : Term) (at : Subterm) (new : Term) : Type 0 where
  pub size : size_of (put_at address new t) + size_of at.term ≡ size_of t + size_of new
  pub shallow : depth_of (put_at address new t) ≤ max (depth_of t) (length address + depth_of new)
  pub deep : length address + depth_of new ≤ depth_of (put_at address new t)
  pub scoped : in_scope_of t scope ≡ true → in_scope_of new at.scope ≡ true → in_scope_of (put_at address new t) scope ≡ true
  pub few : few_binders_of t ≡ true → few_binders_of new ≡ true → few_binders_of (put_at address new t) ≡ true

pub put : (address : List ℕ) (scope : ℕ) (t : Term) (at : Subterm) (new : Term) → subterm_at address scope t ≡ Some at → IsPut address scope t at new
put [] scope t at new e =
    let itself : Subterm = record { term = t; scope = scope } in
    subst (λ x. IsPut [] scope t x new) (here-is scope t at e) (let k : IsPut [] scope t itself new = record { size = omega arith; shallow = omega arith; deep = omega arith; scoped = λ h g. g; few = λ h g. g } in k)
put (number ∷ address) scope t at new e =
    let i = into number address scope t at e in
    let ih = put address (scope + i.b.binders) i.b.body at new i.there in
    let o = i.o in
    let ps = i.ps in
    let bs = i.bs in
    let b = i.b in
    let f = with_body (put_at address new) in
    let cs = changed_at number f bs in
    let made = put-Op number address new t o ps bs i.is in
    let size_old = size-Op o ps bs in
    let size_new = size-Op o ps cs in
    let size_b = size_bound-is b in
    let size_f = size_bound-is (f b) in
    let depth_old = depth-Op o ps bs in
    let depth_new = depth-Op o ps cs in
    let depth_f = depth_bound-is (f b) in
    let s : size_of (Op o ps cs) + size_of at.term ≡ size_of (Op o ps bs) + size_of new =
    let k = ih.size in let w = sum-changed size_bound f bs number b i.here in omega (arith, k, w, size_old, size_new, size_b, size_f) in
    let d : depth_of (Op o ps cs) ≤ max (depth_of (Op o ps bs)) (suc (length address) + depth_of new) =
    let k = ih.shallow in
    let w = greatest-changed depth_bound f bs number b i.here in
    let low = item-low depth_bound bs number b i.here in
    let depth_b = depth_bound-is b in
    omega (arith, k, w, low, depth_old, depth_new, depth_f, depth_b) in
    let l : suc (length address) + depth_of new ≤ depth_of (Op o ps cs) =
    let k = ih.deep in let w = changed-low depth_bound f bs number b i.here in omega (arith, k, w, depth_new, depth_f) in
    let scoped : in_scope_of (Op o ps bs) scope ≡ true → in_scope_of new at.scope ≡ true → in_scope_of (Op o ps cs) scope ≡ true =
    λ h g.
    let old = sym (in_scope-Op o ps bs scope) ∙ h in
    let body = ih.scoped (sym (scoped_bound-is b scope) ∙ scope-item scope bs number b i.here old) g in
    in_scope-Op o ps cs scope ∙ scope-changed f scope bs number b i.here old (scoped_bound-is (f b) scope ∙ body) in
    let few : few_binders_of (Op o ps bs) ≡ true → few_binders_of new ≡ true → few_binders_of (Op o ps cs) ≡ true =
    λ h g.
    let old = sym (few-Op o ps bs) ∙ h in
    let parts = both_true (nat_le b.binders 8) (few_binders_of b.body) (sym (few_bound-is b) ∙ few-item bs number b i.here old) in
    few-Op o ps cs ∙ few-changed f bs number b i.here old (few_bound-is (f b) ∙ and_true (nat_le b.binders 8) (few_binders_of (put_at address new b.body)) parts.0 (ih.few parts.1 g)) in
    record {
      size = ap (λ x. size_of x + size_of at.term) made ∙ s ∙ ap (λ x. size_of x + size_of new) (sym i.is);
      shallow = subst (λ x. depth_of x ≤ max (depth_of t) (suc (length address) + depth_of new)) (sym made) (subst (λ x. depth_of (Op o ps cs) ≤ max (depth_of x) (suc (length address) + depth_of new)) (sym i.is) d);
      deep = subst (λ x. suc (length address) + depth_of new ≤ depth_of x) (sym made) l;
      scoped = λ h g. ap (λ x. in_scope_of x scope) made ∙ scoped (sym (ap (λ x. in_scope_of x scope) i.is) ∙ h) g;
      few = λ h g. ap few_binders_of made ∙ few (sym (ap few_binders_of i.is) ∙ h) g;
    }
