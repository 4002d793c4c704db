-- The contexts and the named hypotheses before a place lie apart.
use Rattle.std.proofs.Common.{◌≡◌, ℕ, ◌+◌, ◌≤◌, List, [], ◌∷◌, ◌++◌, length, true, false, ◌||◌, nat_eq, IsTrue, if◌then◌else◌, Option, Some, None, ◌⊎◌, inl, inr, refl, sym, ◌∙◌, arith}
use Rattle.std.specs.List.{IsDistinct}
use Rattle.std.specs.Option.{option_or}
use Rattle.std.proofs.lemmas.Bool.Decides.{nat_tests}
use Rattle.std.proofs.lemmas.Grind.{common_steps}
use Rattle.mp_logic.specs.declared.sym.Sym.{Sym}
use Rattle.mp_term.specs.declared.term.Term.{Term}
use Rattle.mp_schema.specs.declared.instance.CtxVal.{CtxVal}
use Rattle.mp_term.specs.Subst.{upto}
use Rattle.mp_schema.specs.Conditions.{has, is_known}
use Rattle.mp_schema.specs.Values.{find_ctx, kept_of, first_variable_of, variables_of}
use Rattle.mp_schema.proofs.Spread.{or_right}
use Rattle.mp_match.specs.Covering.{is_there}
use Rattle.mp_match.specs.declared.place.Position.{Position}
use Rattle.mp_match.specs.Places.{names_of, ground_of, IsUsable}
use Rattle.mp_match.specs.Walks.{past_named, past_context, first_walk}
use Rattle.mp_term.proofs.EqualTerms.{decided, same_name, same_name-refl}
use Rattle.mp_schema.proofs.Apart.{Below, Apart-from, Apart-to, Apart-left, Below-to, Below-append, Below-more, Below-upto}
use Rattle.mp_match.proofs.Solving.{last_or_earlier}
use Rattle.mp_schema.proofs.Laying.{IsLaidOut, laid-first, blocks-distinct, laid-named as named_next, laid-context as context_next}

-- ## Look-ups

pub has-append : (xs : List Sym) (x a : Sym) → has (xs ++ x ∷ []) a ≡ (has xs a || nat_eq x.0 a.0)
has-append [] x a = elim (decided (nat_eq x.0 a.0)) [ inl h ↦ rw h refl | inr h ↦ rw h refl ]
has-append (y ∷ xs) x a = elim (decided (nat_eq y.0 a.0)) [ inl h ↦ rw h refl | inr h ↦ rw h (has-append xs x a) ]

pub names-append : (xs : List CtxVal) (x : CtxVal) → names_of (xs ++ x ∷ []) ≡ x.name ∷ names_of xs
names-append [] x = refl
names-append (y ∷ xs) x = rw (names-append xs x) refl

ctx-append : (xs : List CtxVal) (x : CtxVal) (name : Sym) → find_ctx (xs ++ x ∷ []) name ≡ option_or (find_ctx xs name) (if nat_eq x.name.0 name.0 then Some x else None)
ctx-append [] x name = refl
ctx-append (z ∷ xs) x name = elim (decided (nat_eq z.name.0 name.0)) [ inl h ↦ rw h refl | inr h ↦ rw h (ctx-append xs x name) ]

pub ctx-kept : (xs : List CtxVal) (x y : CtxVal) (name : Sym) → find_ctx xs name ≡ Some y → find_ctx (xs ++ x ∷ []) name ≡ Some y
ctx-kept xs x y name e = rw (ctx-append xs x name, e) refl

pub ctx-new : (xs : List CtxVal) (x : CtxVal) → find_ctx xs x.name ≡ None → find_ctx (xs ++ x ∷ []) x.name ≡ Some x
ctx-new xs x e = let same = same_name-refl x.name in rw (ctx-append xs x x.name, e, same) refl

pub ctx-either : (xs : List CtxVal) (x y : CtxVal) (name : Sym) → find_ctx (xs ++ x ∷ []) name ≡ Some y →
    (find_ctx xs name ≡ Some y) ⊎ ((x.name ≡ name) × (y ≡ x))
ctx-either xs x y name e = last_or_earlier (find_ctx xs name) x.name name x y (sym (ctx-append xs x name) ∙ e)

pub ctx-other : (xs : List CtxVal) (x : CtxVal) (name : Sym) → nat_eq x.name.0 name.0 ≡ false → find_ctx (xs ++ x ∷ []) name ≡ find_ctx xs name
ctx-other xs x name h = rw (ctx-append xs x name, h) (or_none (find_ctx xs name)) where
  or_none : (o : Option CtxVal) → option_or o None ≡ o
  or_none None = refl
  or_none (Some y) = refl

-- the names are those that have a value
has-names : (xs : List CtxVal) (name : Sym) → has (names_of xs) name ≡ is_there (find_ctx xs name)
has-names [] name = refl
has-names (z ∷ xs) name =
    has-append (names_of xs) z.name name ∙ elim (decided (nat_eq z.name.0 name.0)) [
      | inl same ↦ rw same (or_right (has (names_of xs) name) true refl)
      | inr other ↦ let rest = has-names xs name in grind (arith, common_steps, other, rest)
    ]

none_there : (o : Option CtxVal) → is_there o ≡ false → o ≡ None
none_there None h = refl
none_there (Some x) h = absurd (cc)

some_there : (o : Option CtxVal) → is_there o ≡ true → (x : CtxVal) × (o ≡ Some x)
some_there None h = absurd (cc)
some_there (Some x) h = (x, refl)

-- a name that no context has, has no value
pub ctx-none : (xs : List CtxVal) (name : Sym) → has (names_of xs) name ≡ false → find_ctx xs name ≡ None
ctx-none xs name h = none_there (find_ctx xs name) (sym (has-names xs name) ∙ h)

pub ctx-some : (xs : List CtxVal) (name : Sym) → has (names_of xs) name ≡ true → (x : CtxVal) × (find_ctx xs name ≡ Some x)
ctx-some xs name h = some_there (find_ctx xs name) (sym (has-names xs name) ∙ h)

-- ## Places

abbrev pub count_of : List CtxVal → Sym → ℕ
count_of ctxs name = length (kept_of ctxs name)

-- the contexts and the named hypotheses before a place lie apart, below it
pub record IsLaid (place : Position) : Type 0 where
  pub ambient : place.ambient ≡ 0
  pub apart : IsLaidOut (first_variable_of place.ctxs) (count_of place.ctxs) (names_of place.ctxs) place.named place.next

-- nothing lies before the first place
pub laid-nothing : IsLaid first_walk.place
laid-nothing = record { ambient = refl; apart = laid-first (first_variable_of []) (count_of []) }

-- where these contexts have the same variables, they lie apart as well
laid-same : (first first' count count' : Sym → ℕ) (known : List Sym) (named : List ℕ) (next : ℕ) → ((c : Sym) → has known c ≡ true → (first c ≡ first' c) × (count c ≡ count' c)) →
    IsLaidOut first count known named next → IsLaidOut first' count' known named next
laid-same first first' count count' known named next same laid = record {
  ends = λ c h. let e = same c h in rw (← e.0, ← e.1) (laid.ends c h);
  named_below = laid.named_below;
  named_apart = laid.named_apart;
  contexts_apart = λ a b ha hb ne. let ea = same a ha in let eb = same b hb in rw (← ea.0, ← ea.1, ← eb.0, ← eb.1) (laid.contexts_apart a b ha hb ne);
  context_named = λ a ha. let e = same a ha in rw (← e.0, ← e.1) (laid.context_named a ha);
}

module _ (place : Position) (laid : IsLaid place) where
  abbrev first : Sym → ℕ
  first = first_variable_of place.ctxs

  abbrev count : Sym → ℕ
  count = count_of place.ctxs

  abbrev known : List Sym
  known = names_of place.ctxs

  pub laid-ends : (name : Sym) → first_variable_of place.ctxs name + length (kept_of place.ctxs name) ≤ place.next
  laid-ends name = elim (decided (has known name)) [
    | inl h ↦ laid.apart.ends name h
    | inr h ↦ rw (ctx-none place.ctxs name h) (omega arith)
  ]

  ground-variables : (names : List Sym) → ground_of place names ≡ variables_of place.ctxs names
  ground-variables names = rw laid.ambient refl

  pub ground-distinct : (names : List Sym) → IsTrue (is_known (names_of place.ctxs) names) → IsDistinct nat_eq (ground_of place names ++ place.named)
  ground-distinct names h = rw (ground-variables names) (blocks-distinct first count known place.named place.next laid.apart names h)

  pub variables-below : (names : List Sym) → Below place.next (variables_of place.ctxs names)
  variables-below [] = λ i lt. absurd (omega arith)
  variables-below (a ∷ names) =
      let e = laid-ends a in
      Below-append (upto (first a) (count a)) (variables_of place.ctxs names) place.next
      (Below-more (first a + count a) place.next (upto (first a) (count a)) (omega (arith, e)) (Below-upto (first a) (count a))) (variables-below names)

  pub ground-below : (names : List Sym) → Below place.next (ground_of place names ++ place.named)
  ground-below names = rw (ground-variables names) (Below-append (variables_of place.ctxs names) place.named place.next (variables-below names) laid.apart.named_below)

  -- the variables of contexts are distinct
  pub variables-distinct : (names : List Sym) → IsTrue (is_known (names_of place.ctxs) names) → IsDistinct nat_eq (variables_of place.ctxs names)
  variables-distinct names h =
      Apart-to (variables_of place.ctxs names) (Apart-left (variables_of place.ctxs names) place.named
      (Apart-from (variables_of place.ctxs names ++ place.named) (rw (ground-variables names) at (ground-distinct names h))))

  pub laid-usable : IsUsable place
  laid-usable = record {
    ends = laid-ends;
    distinct = ground-distinct;
    below = λ names h. Below-to place.next (ground_of place names ++ place.named) (ground-below names);
  }

  -- ## The next place

  pub laid-named : IsLaid (past_named place)
  laid-named = record { ambient = laid.ambient; apart = named_next first count known place.named place.next laid.apart }

  module _ (name : Sym) (kept : List Term) (new : has (names_of place.ctxs) name ≡ false) where
    abbrev value : CtxVal
    value = record { name = name; first = place.next; hyps = kept }

    abbrev more : List CtxVal
    more = place.ctxs ++ value ∷ []

    at_new : find_ctx more name ≡ Some value
    at_new = ctx-new place.ctxs value (ctx-none place.ctxs name new)

    is_other : (c : Sym) → has known c ≡ true → nat_eq name.0 c.0 ≡ false
    is_other c h = elim (decided (nat_eq name.0 c.0)) [
      | inl same ↦ absurd (let e = same_name name c same in let h' = rw (← e) at h in cc)
      | inr other ↦ other
    ]

    -- the contexts that were there have the variables that they had
    old_ones : (c : Sym) → has known c ≡ true → (first c ≡ first c) × (count c ≡ count_of more c)
    old_ones c h = (refl, rw (ctx-other place.ctxs value c (is_other c h)) refl)

    -- the new one has those from the place on
    all_ones : (c : Sym) → has (name ∷ known) c ≡ true → ((if nat_eq c.0 name.0 then place.next else first c) ≡ first_variable_of more c) × (count_of more c ≡ count_of more c)
    all_ones c h = (
      elim (decided (nat_eq c.0 name.0)) [
        | inl same ↦ let e = same_name c name same in rw (same, e, at_new) refl
        | inr other ↦ let other' : nat_eq name.0 c.0 ≡ false = grind (arith, nat_tests, other) in rw (other, ctx-other place.ctxs value c other') refl
      ],
      refl,
    )

    pub laid-context : IsLaid (past_context name place kept)
    laid-context = record {
      ambient = laid.ambient;
      apart =
          let before = laid-same first first count (count_of more) known place.named place.next old_ones laid.apart in
          let after = laid-same _ (first_variable_of more) (count_of more) (count_of more) (name ∷ known) place.named _ all_ones
          (context_next first (count_of more) known place.named place.next before name new) in
          let long : count_of more name ≡ length kept = rw at_new refl in
          let names : names_of more ≡ name ∷ known = names-append place.ctxs value in
          rw (names, ← long) after;
    }
