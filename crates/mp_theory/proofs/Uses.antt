-- The needs of a rule, as occurrences in its premises.
use Rattle.std.proofs.Common.{◌≡◌, ◌⊎◌, inl, inr, ℕ, List, [], ◌∷◌, ◌++◌, map, length, Bool, true, false, nat_eq, if◌then◌else◌, refl, sym, ap, ◌∙◌, subst, arith, rules}
use Rattle.std.specs.Prelude.{◌||◌}
use Rattle.std.specs.List.{flat_map}
use Rattle.std.proofs.lemmas.Bool.Decides.{nat_tests}
use Rattle.std.proofs.lemmas.Grind.{common_steps}
use Rattle.std.proofs.lemmas.List.{length-map}
use Rattle.mp_logic.specs.declared.sym.Sym.{Sym}
use Rattle.mp_schema.specs.declared.pattern.Pattern.{Pattern, the_lemmas}
use Rattle.mp_schema.specs.declared.pattern.Pattern as pat
use Rattle.mp_schema.specs.declared.pattern.ParamPat.{ParamPat}
use Rattle.mp_schema.specs.declared.pattern.PBound.{PBound}
use Rattle.mp_schema.specs.declared.schema.Item.{Item}
use Rattle.mp_schema.specs.declared.schema.Item.TheVariants.{Ctx, Hyp}
use Rattle.mp_schema.specs.declared.schema.Schema.{Schema}
use Rattle.mp_schema.specs.Occurrences.{Occurrence, occurrences_in, occurrences_in_bound, occurrences_in_item, occurrences_in_schema, variable_level}
use Rattle.mp_schema.specs.Induction.{each_pattern, OfEachBody, OfEachArg}
use Rattle.mp_schema.proofs.Layers.{occurrences_in-Var, occurrences_in-Op, occurrences_in-Meta, occurrences_in_bound-is}
use Rattle.mp_theory.specs.declared.rule.Need.{Need}
use Rattle.mp_theory.specs.Needs.{all_uses, uses_of, uses_bound, item_uses, schema_uses, is_needed, joined_by, first_uses, needs_of}
use Rattle.mp_schema.specs.Occurrences.{In}
use Rattle.mp_schema.proofs.Lists.{in-split, in-flat, flat-in}
use Rattle.mp_schema.proofs.UseKinds.{same_name, nat_eq-itself}

-- ## Uses are the occurrences that are no contexts

abbrev pub use_at : Occurrence → Need
use_at o = record { name = o.name; ctxs = o.ctxs; arity = length o.levels }

abbrev pub uses_in : List Occurrence → List Need
uses_in [] = []
uses_in (o ∷ os) = if o.is_context then uses_in os else use_at o ∷ uses_in os

uses_in-append : (os others : List Occurrence) → uses_in (os ++ others) ≡ uses_in os ++ uses_in others
uses_in-append [] others = refl
uses_in-append (o ∷ os) others = by o.is_context (uses_in-append os others)
  where
    by : (b : Bool) → uses_in (os ++ others) ≡ uses_in os ++ uses_in others →
        (if b then uses_in (os ++ others) else use_at o ∷ uses_in (os ++ others)) ≡ (if b then uses_in os else use_at o ∷ uses_in os) ++ uses_in others
    by true ih = ih
    by false ih = ap (λ us. use_at o ∷ us) ih

uses_of-Var : (l : ℕ) → uses_of (pat.Var l) ≡ []
uses_of-Var l = search (rules, the_lemmas)

uses_of-Op : (o : Sym) (ps : List ParamPat) (subs : List PBound) → uses_of (pat.Op o ps subs) ≡ all_uses (map uses_bound subs)
uses_of-Op o ps subs = search (rules, the_lemmas)

pub uses_of-Meta : (n : Sym) (cs : List Sym) (args : List Pattern) →
    uses_of (pat.Meta n cs args) ≡ record { name = n; ctxs = cs; arity = length args } ∷ all_uses (map uses_of args)
uses_of-Meta n cs args =
    let e : uses_of (pat.Meta n cs args) ≡ record { name = n; ctxs = cs; arity = length (map uses_of args) } ∷ all_uses (map uses_of args)
    = search (rules, the_lemmas) in
    rw (length-map args uses_of) at e

uses_bound-is : (b : PBound) → uses_bound b ≡ uses_of b.body
uses_bound-is b = search (rules, the_lemmas)

abbrev Used : Pattern → Type 0
Used p = uses_of p ≡ uses_in (occurrences_in p)

used_bodies : (subs : List PBound) → OfEachBody Used subs → all_uses (map uses_bound subs) ≡ uses_in (flat_map occurrences_in_bound subs)
used_bodies [] h = refl
used_bodies (b ∷ bs) h =
    let here : uses_bound b ≡ uses_in (occurrences_in_bound b) = uses_bound-is b ∙ h.0 ∙ ap uses_in (sym (occurrences_in_bound-is b)) in
    ap (λ us. us ++ all_uses (map uses_bound bs)) here ∙ ap (λ us. uses_in (occurrences_in_bound b) ++ us) (used_bodies bs h.1)
    ∙ sym (uses_in-append (occurrences_in_bound b) (flat_map occurrences_in_bound bs))

used_args : (args : List Pattern) → OfEachArg Used args → all_uses (map uses_of args) ≡ uses_in (flat_map occurrences_in args)
used_args [] h = refl
used_args (a ∷ rest) h =
    ap (λ us. us ++ all_uses (map uses_of rest)) h.0 ∙ ap (λ us. uses_in (occurrences_in a) ++ us) (used_args rest h.1)
    ∙ sym (uses_in-append (occurrences_in a) (flat_map occurrences_in rest))

used : (p : Pattern) → uses_of p ≡ uses_in (occurrences_in p)
used =
    each_pattern Used (λ l. uses_of-Var l ∙ ap uses_in (sym (occurrences_in-Var l)))
    (λ o ps subs h. uses_of-Op o ps subs ∙ used_bodies subs h ∙ ap uses_in (sym (occurrences_in-Op o ps subs)))
    (λ n cs args h.
    let many : length (map variable_level args) ≡ length args = length-map args variable_level in
    let first : (record { name = n; ctxs = cs; arity = length args } ∷ all_uses (map uses_of args))
    ≡ (record { name = n; ctxs = cs; arity = length (map variable_level args) } ∷ uses_in (flat_map occurrences_in args)) = rw (many, used_args args h) refl in
    uses_of-Meta n cs args ∙ first ∙ ap uses_in (sym (occurrences_in-Meta n cs args)))

used_each : (args : List Pattern) → all_uses (map uses_of args) ≡ uses_in (flat_map occurrences_in args)
used_each [] = refl
used_each (a ∷ rest) =
    ap (λ us. us ++ all_uses (map uses_of rest)) (used a) ∙ ap (λ us. uses_in (occurrences_in a) ++ us) (used_each rest)
    ∙ sym (uses_in-append (occurrences_in a) (flat_map occurrences_in rest))

used_item : (i : Item) → item_uses i ≡ uses_in (occurrences_in_item i)
used_item (Hyp p) = used p
used_item (Ctx name ctxs args) = used_each args

used_items : (items : List Item) → all_uses (map item_uses items) ≡ uses_in (flat_map occurrences_in_item items)
used_items [] = refl
used_items (i ∷ is) =
    ap (λ us. us ++ all_uses (map item_uses is)) (used_item i) ∙ ap (λ us. uses_in (occurrences_in_item i) ++ us) (used_items is)
    ∙ sym (uses_in-append (occurrences_in_item i) (flat_map occurrences_in_item is))

pub used_schema : (s : Schema) → schema_uses s ≡ uses_in (occurrences_in_schema s)
used_schema s =
    ap (λ us. us ++ uses_of s.concl) (used_items s.items) ∙ ap (λ us. uses_in (flat_map occurrences_in_item s.items) ++ us) (used s.concl)
    ∙ sym (uses_in-append (flat_map occurrences_in_item s.items) (occurrences_in s.concl))

pub record UseIn (n : Need) (os : List Occurrence) : Type 0 where
  pub at : Occurrence
  pub there : In at os
  pub plain : at.is_context ≡ false
  pub same : use_at at ≡ n

pub use-occurs : (os : List Occurrence) (n : Need) → In n (uses_in os) → UseIn n os
use-occurs [] n i = absurd i
use-occurs (o ∷ os) n i = by o.is_context refl i (use-occurs os n)
  where
    later : UseIn n os → UseIn n (o ∷ os)
    later r = record { at = r.at; there = inr r.there; plain = r.plain; same = r.same }

    by : (b : Bool) → o.is_context ≡ b → In n (if b then uses_in os else use_at o ∷ uses_in os) → (In n (uses_in os) → UseIn n os) → UseIn n (o ∷ os)
    by true e j rest = later (rest j)
    by false e (inl same) rest = record { at = o; there = inl refl; plain = e; same = same }
    by false e (inr j) rest = later (rest j)

pub occurs-use : (os : List Occurrence) (o : Occurrence) → In o os → o.is_context ≡ false → In (use_at o) (uses_in os)
occurs-use [] o i e = absurd i
occurs-use (x ∷ os) o i e = by x.is_context refl i (λ j. occurs-use os o j e)
  where
    by : (b : Bool) → x.is_context ≡ b → (x ≡ o) ⊎ In o os → (In o os → In (use_at o) (uses_in os)) → In (use_at o) (if b then uses_in os else use_at x ∷ uses_in os)
    by true t (inl same) rest = let k : x.is_context ≡ o.is_context = ap (λ (y : Occurrence). y.is_context) same in absurd cc
    by true t (inr j) rest = rest j
    by false t (inl same) rest = inl (ap use_at same)
    by false t (inr j) rest = inr (rest j)

-- ## First uses

pub record NeedIn (ns : List Need) (name : Sym) : Type 0 where
  pub need : Need
  pub there : In need ns
  pub named : need.name ≡ name

pub needed-in : (ns : List Need) (name : Sym) → is_needed ns name ≡ true → NeedIn ns name
needed-in [] name e = absurd cc
needed-in (n ∷ ns) name e = by (nat_eq n.name.0 name.0) refl e (needed-in ns name)
  where
    by : (b : Bool) → nat_eq n.name.0 name.0 ≡ b → (b || is_needed ns name) ≡ true → (is_needed ns name ≡ true → NeedIn ns name) → NeedIn (n ∷ ns) name
    by true t k rest = record { need = n; there = inl refl; named = same_name n.name name t }
    by false t k rest = let r = rest k in record { need = r.need; there = inr r.there; named = r.named }

needed-append : (ns ms : List Need) (name : Sym) → is_needed (ns ++ ms) name ≡ (is_needed ns name || is_needed ms name)
needed-append [] ms name = refl
needed-append (n ∷ ns) ms name = let ih = needed-append ns ms name in grind (arith, common_steps, ih)

-- no two have one name
abbrev pub HaveApartNames : List Need → Type 0
HaveApartNames [] = Unit {0}
HaveApartNames (n ∷ ns) = (is_needed ns n.name ≡ false) × HaveApartNames ns

apart-push : (ns : List Need) (u : Need) → HaveApartNames ns → is_needed ns u.name ≡ false → HaveApartNames (ns ++ u ∷ [])
apart-push [] u h e = (refl, tt)
apart-push (n ∷ ns) u h e =
    let there : is_needed ns u.name ≡ false = grind (arith, common_steps) in
    let other : nat_eq n.name.0 u.name.0 ≡ false = grind (arith, common_steps) in
    let a = h.0 in
    let s = needed-append ns (u ∷ []) n.name in
    let new : is_needed (ns ++ u ∷ []) n.name ≡ false = grind (arith, nat_tests, common_steps, a, s, other) in
    (new, apart-push ns u h.1 there)

module _ (skip : List Need) where
  -- what one use changes
  pub record Joined (held new : List Need) (u : Need) : Type 0 where
    pub kept : (name : Sym) → is_needed held name ≡ true → is_needed new name ≡ true
    pub met : (is_needed skip u.name ≡ true) ⊎ (is_needed new u.name ≡ true)
    pub from : (n : Need) → In n new → In n held ⊎ ((n ≡ u) × (is_needed skip u.name ≡ false))
    pub apart : HaveApartNames held → HaveApartNames new

  join : (held : List Need) (u : Need) → Joined held (joined_by skip held u) u
  join held u = by (is_needed skip u.name) refl (is_needed held u.name) refl
    where
      from_push : (n : Need) → is_needed skip u.name ≡ false → In n held ⊎ In n (u ∷ []) → In n held ⊎ ((n ≡ u) × (is_needed skip u.name ≡ false))
      from_push n e (inl i) = inl i
      from_push n e (inr (inl same)) = inr (sym same, e)
      from_push n e (inr (inr i)) = absurd i

      by : (a : Bool) → is_needed skip u.name ≡ a → (b : Bool) → is_needed held u.name ≡ b → Joined held (if a || b then held else held ++ u ∷ []) u
      by true s b h = record { kept = λ name e. e; met = inl s; from = λ n i. inl i; apart = λ k. k }
      by false s true h = record { kept = λ name e. e; met = inr h; from = λ n i. inl i; apart = λ k. k }
      by false s false h = record {
        kept = λ name e. let p = needed-append held (u ∷ []) name in rw e at p;
        met = inr (let p = needed-append held (u ∷ []) u.name in let k = nat_eq-itself u.name.0 in grind (arith, common_steps, p, k));
        from = λ n i. from_push n s (in-split n held (u ∷ []) i);
        apart = λ k. apart-push held u k h;
      }

  -- what all uses together change
  pub first_kept : (us held : List Need) (name : Sym) → is_needed held name ≡ true → is_needed (first_uses skip held us) name ≡ true
  first_kept [] held name e = e
  first_kept (u ∷ us) held name e = first_kept us (joined_by skip held u) name ((join held u).kept name e)

  pub first_met : (us held : List Need) (u : Need) → In u us → (is_needed skip u.name ≡ true) ⊎ (is_needed (first_uses skip held us) u.name ≡ true)
  first_met [] held u i = absurd i
  first_met (x ∷ us) held u (inl e) = subst (λ (y : Need). (is_needed skip y.name ≡ true) ⊎ (is_needed (first_uses skip (joined_by skip held x) us) y.name ≡ true)) e
      (elim ((join held x).met) [ inl s ↦ inl s | inr h ↦ inr (first_kept us (joined_by skip held x) x.name h) ])
  first_met (x ∷ us) held u (inr i) = first_met us (joined_by skip held x) u i

  pub first_from : (us held : List Need) (n : Need) → In n (first_uses skip held us) → In n held ⊎ (In n us × (is_needed skip n.name ≡ false))
  first_from [] held n i = inl i
  first_from (u ∷ us) held n i = elim (first_from us (joined_by skip held u) n i) [
    | inl j ↦ elim ((join held u).from n j) [
      | inl k ↦ inl k
      | inr k ↦ inr (inl (sym k.0), subst (λ (y : Need). is_needed skip y.name ≡ false) (sym k.0) k.1)
    ]
    | inr j ↦ inr (inr j.0, j.1)
  ]

  pub first_apart : (us held : List Need) → HaveApartNames held → HaveApartNames (first_uses skip held us)
  first_apart [] held h = h
  first_apart (u ∷ us) held h = first_apart us (joined_by skip held u) ((join held u).apart h)

-- ## Needs

all_uses-is : {X : Type 0} (f : X → List Need) (xs : List X) → all_uses (map f xs) ≡ flat_map f xs
all_uses-is f [] = refl
all_uses-is f (x ∷ xs) = ap (λ us. f x ++ us) (all_uses-is f xs)

-- some occurrence of the name is no context
pub record UsedIn (os : List Occurrence) (name : Sym) : Type 0 where
  pub at : Occurrence
  pub there : In at os
  pub plain : at.is_context ≡ false
  pub named : at.name ≡ name

-- a need is an occurrence of some premise, and no occurrence of the conclusion has its name but contexts
pub record NeedFrom (ps : List Schema) (c : Schema) (n : Need) : Type 0 where
  pub premise : Schema
  pub in_premises : In premise ps
  pub at : Occurrence
  pub there : In at (occurrences_in_schema premise)
  pub plain : at.is_context ≡ false
  pub same : use_at at ≡ n
  pub new : UsedIn (occurrences_in_schema c) n.name → ⊥

module _ (ps : List Schema) (c : Schema) where
  abbrev bound : List Need
  bound = first_uses [] [] (schema_uses c)

  abbrev free : List Need
  free = all_uses (map schema_uses ps)

  bound-used : (name : Sym) → is_needed bound name ≡ true → UsedIn (occurrences_in_schema c) name
  bound-used name e =
      let r = needed-in bound name e in
      elim (first_from [] (schema_uses c) [] r.need r.there) [
        | inl i ↦ absurd i
        | inr k ↦
            let u = use-occurs (occurrences_in_schema c) r.need (subst (λ us. In r.need us) (used_schema c) k.0) in
            record { at = u.at; there = u.there; plain = u.plain; named = ap (λ (y : Need). y.name) u.same ∙ r.named }
      ]

  used-bound : (name : Sym) → UsedIn (occurrences_in_schema c) name → is_needed bound name ≡ true
  used-bound name u =
      let i = subst (λ us. In (use_at u.at) us) (sym (used_schema c)) (occurs-use (occurrences_in_schema c) u.at u.there u.plain) in
      let e : is_needed bound u.at.name ≡ true = elim (first_met [] (schema_uses c) [] (use_at u.at) i) [ inl k ↦ absurd cc | inr k ↦ k ] in
      rw u.named at e

  -- a use in a premise is one of the conclusion's, or it is needed
  pub need-met : (p : Schema) (o : Occurrence) → In p ps → In o (occurrences_in_schema p) → o.is_context ≡ false →
      UsedIn (occurrences_in_schema c) o.name ⊎ NeedIn (needs_of ps c) o.name
  need-met p o i j e =
      let u = subst (λ us. In (use_at o) us) (sym (used_schema p)) (occurs-use (occurrences_in_schema p) o j e) in
      let k : In (use_at o) free = subst (λ us. In (use_at o) us) (sym (all_uses-is schema_uses ps)) (in-flat schema_uses ps p (use_at o) i u) in
      elim (first_met bound free [] (use_at o) k) [
        | inl b ↦ inl (bound-used o.name b)
        | inr n ↦ inr (needed-in (needs_of ps c) o.name n)
      ]

  pub need-from : (n : Need) → In n (needs_of ps c) → NeedFrom ps c n
  need-from n i = elim (first_from bound free [] n i) [
    | inl j ↦ absurd j
    | inr k ↦
        let f = flat-in schema_uses ps n (subst (λ us. In n us) (all_uses-is schema_uses ps) k.0) in
        let u = use-occurs (occurrences_in_schema f.0) n (subst (λ us. In n us) (used_schema f.0) f.1.1) in
        record {
          premise = f.0;
          in_premises = f.1.0;
          at = u.at;
          there = u.there;
          plain = u.plain;
          same = u.same;
          new = λ w. let y = used-bound n.name w in let m = k.1 in absurd cc;
        }
  ]

  pub needs_apart : HaveApartNames (needs_of ps c)
  needs_apart = first_apart bound free [] tt
