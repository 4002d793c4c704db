-- What matching a context asks and finds.
use Rattle.std.proofs.Common.{◌≡◌, ℕ, ◌+◌, ◌-◌, ◌<◌, List, [], ◌∷◌, ◌++◌, length, map, Bool, true, false, nat_eq, if◌then◌else◌, IsTrue, All, Option, Some, None, Result, Ok, Err, IfOk, refl, sym, arith}
use Rattle.std.specs.Option.{option_map}
use Rattle.std.specs.List.{IsDistinct}
use Rattle.mp_logic.specs.declared.sym.Sym.{Sym}
use Rattle.mp_term.specs.declared.term.Term.{Term}
use Rattle.mp_term.specs.Subst.{unrenamed}
use Rattle.mp_schema.specs.declared.pattern.Pattern.{Pattern}
use Rattle.mp_schema.specs.Conditions.{seen, args_fine, is_known}
use Rattle.mp_match.specs.declared.place.Found.{Found}
use Rattle.mp_match.specs.declared.place.Position.{Position}
use Rattle.mp_match.specs.declared.place.Walk.{Walk}
use Rattle.mp_match.specs.Places.{ground_of, names_of, IsUsable}
use Rattle.mp_match.specs.Walks.{kept_with, kept_found, context_levels, context_found, past_context}
use Rattle.mp_schema.proofs.Arguments.{arguments-distinct, arguments-below}

module _ (place : Position) (ctxs : List Sym) (args : List Pattern) (fine : IsTrue (args_fine (length place.named) (map seen args)))
    (known : IsTrue (is_known (names_of place.ctxs) ctxs)) (usable : IsUsable place) where
  no_binders : args_fine (length place.named + (place.next - place.next)) (map seen args) ≡ true
  no_binders = let e : length place.named + (place.next - place.next) ≡ length place.named = omega arith in rw e fine

  pub context_distinct : IsDistinct nat_eq (context_levels ctxs args place)
  context_distinct = arguments-distinct (ground_of place ctxs) place.named place.next place.next (map seen args) (omega arith)
      (usable.distinct ctxs known) (usable.below ctxs known) no_binders

  pub context_below : All (λ l. l < place.next) (context_levels ctxs args place)
  context_below = arguments-below (ground_of place ctxs) place.named place.next place.next (map seen args) (omega arith)
      (usable.distinct ctxs known) (usable.below ctxs known) no_binders

-- as many hypotheses are kept
with-length : (o : Option Term) (r : Option (List Term)) (us : List Term) (n : ℕ) → kept_with o r ≡ Some us → ((rest : List Term) → r ≡ Some rest → length rest ≡ n) →
    length us ≡ n + 1
with-length None r us n e h = absurd (cc)
with-length (Some u) None us n e h = absurd (cc)
with-length (Some u) (Some rest) us n e h = let is : us ≡ u ∷ rest = cc in let k = h rest refl in rw is (omega (arith, k))

pub kept-length : (levels : List ℕ) (m : ℕ) (ts us : List Term) → kept_found levels m ts ≡ Some us → length us ≡ length ts
kept-length levels m [] us e = let is : us ≡ [] = cc in rw is refl
kept-length levels m (t ∷ ts) us e =
    let r = with-length (unrenamed levels m t) (kept_found (levels ++ m ∷ []) (m + 1) ts) us (length ts) e
    (λ rest is. kept-length (levels ++ m ∷ []) (m + 1) ts rest is) in
    omega (arith, r)

pub context-some : (name : Sym) (ctxs : List Sym) (args : List Pattern) (hyps : List Term) (place : Position) (kept : List Term) (next : ℕ) →
    Some kept ≡ kept_found (context_levels ctxs args place) place.next hyps → next ≡ place.next + length hyps →
    Some (record (past_context name place kept) { next = next }) ≡ context_found name ctxs args hyps place
context-some name ctxs args hyps place kept next e is =
    let long = kept-length (context_levels ctxs args place) place.next hyps kept (sym e) in
    let next-is : next ≡ place.next + length kept = omega arith in
    rw (← e, next-is) refl

-- the place goes on, and what is found stays
pub with_place : (b : Bool) (place : Position) (found : Found) (o : Option Position) → (if b then Some place else None) ≡ o →
    (if b then Some (record { place = place; found = found }) else None) ≡ option_map (λ (p : Position). let w : Walk = record { place = p; found = found } in w) o
with_place true place found o e = rw (← e) refl
with_place false place found o e = rw (← e) refl

pub with_place-ok : {E : Type 0} (r : Result Bool E) (place : Position) (found : Found) (o : Option Position) → IfOk r (λ b. (if b then Some place else None) ≡ o) →
    IfOk r (λ b. (if b then Some (record { place = place; found = found }) else None) ≡ option_map (λ (p : Position). let w : Walk = record { place = p; found = found } in w) o)
with_place-ok (Ok b) place found o h = with_place b place found o h
with_place-ok (Err e) place found o h = tt
