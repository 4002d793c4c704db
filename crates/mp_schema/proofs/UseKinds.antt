-- Occurrences of one name are of one kind.
use Rattle.std.proofs.Common.{◌≡◌, inl, inr, ℕ, List, [], ◌∷◌, map, length, Bool, true, false, nat_eq, Option, Some, None, refl, sym, ap, ◌∙◌, subst, arith}
use Rattle.std.specs.Prelude.{◌||◌}
use Rattle.std.specs.List.{flat_map}
use Rattle.std.proofs.lemmas.Bool.Decides.{nat_tests}
use Rattle.std.proofs.lemmas.Grind.{common_steps}
use Rattle.mp_logic.specs.declared.sym.Sym.{Sym}
use Rattle.mp_schema.specs.declared.pattern.Pattern.{Pattern}
use Rattle.mp_schema.specs.declared.pattern.PBound.{PBound}
use Rattle.mp_schema.specs.declared.schema.Item.{Item}
use Rattle.mp_schema.specs.declared.schema.Item.TheVariants.{Ctx, Hyp}
use Rattle.mp_schema.specs.Conditions.{has, has_all, contexts_among}
use Rattle.mp_schema.specs.Faults.{is_consistent, is_like, is_like_first, same_names}
use Rattle.mp_logic.specs.Lists.{same_bool}
use Rattle.mp_schema.specs.Occurrences.{Occurrence, occurrences_in, occurrences_in_bound, occurrences_in_item, variable_level, first_named}
use Rattle.mp_schema.specs.Induction.{each_pattern, OfEachBody, OfEachArg}
use Rattle.mp_schema.proofs.Layers.{occurrences_in-Var, occurrences_in-Op, occurrences_in-Meta, occurrences_in_bound-is}
use Rattle.mp_schema.specs.Occurrences.{In}
use Rattle.mp_schema.proofs.Lists.{in-right, in-split, all-in, find-Some, find-None}

-- what an occurrence says of its name's value: whether it is a context's, and what the value may use
pub record Kind : Type 0 where
  pub is_context : Bool
  pub name : Sym
  pub ctxs : List Sym
  pub count : ℕ

abbrev pub kind_of : Occurrence → Kind
kind_of o = record { is_context = o.is_context; name = o.name; ctxs = o.ctxs; count = length o.levels }

pub same_name : (a b : Sym) → nat_eq a.0 b.0 ≡ true → a ≡ b
same_name a b e = let k : a.0 ≡ b.0 = grind (arith, nat_tests, e) in ap (λ (n : ℕ). let s : Sym = record { 0 = n } in s) k

pub nat_eq-itself : (n : ℕ) → nat_eq n n ≡ true
nat_eq-itself n = grind (arith, nat_tests)

pub same_names-is : (xs ys : List Sym) → same_names xs ys ≡ true → xs ≡ ys
same_names-is [] [] e = refl
same_names-is [] (y ∷ ys) e = absurd cc
same_names-is (x ∷ xs) [] e = absurd cc
same_names-is (x ∷ xs) (y ∷ ys) e =
    let here : nat_eq x.0 y.0 ≡ true = grind (arith, common_steps) in
    let there : same_names xs ys ≡ true = grind (arith, common_steps) in
    let a = same_name x y here in let b = same_names-is xs ys there in rw (a, b) refl

pub same_bool-is : (a b : Bool) → same_bool a b ≡ true → a ≡ b
same_bool-is true b e = sym e
same_bool-is false true e = absurd cc
same_bool-is false false e = refl

like_kind : (f o : Occurrence) → is_like f o ≡ true → f.name ≡ o.name → kind_of f ≡ kind_of o
like_kind f o e n =
    let a = same_bool-is f.is_context o.is_context (grind (arith, common_steps)) in
    let b = same_names-is f.ctxs o.ctxs (grind (arith, common_steps)) in
    let c : length f.levels ≡ length o.levels = grind (arith, nat_tests, common_steps) in
    rw (a, b, c, n) refl

module _ (os : List Occurrence) (consistent : is_consistent os ≡ true) where
  pub same_kinds : (a b : Occurrence) → In a os → In b os → a.name ≡ b.name → kind_of a ≡ kind_of b
  same_kinds a b i j n = by (first_named os a.name) refl
    where
      by : (r : Option Occurrence) → first_named os a.name ≡ r → kind_of a ≡ kind_of b
      by None e =
          let miss = find-None (λ (o : Occurrence). nat_eq o.name.0 a.name.0) os a e i in absurd (grind (arith, nat_tests, miss))
      by (Some f) e =
          let found = find-Some (λ (o : Occurrence). nat_eq o.name.0 a.name.0) os f e in
          let named = same_name f.name a.name found.1 in
          let la : is_like_first (first_named os a.name) a ≡ true = all-in (λ (o : Occurrence). is_like_first (first_named os o.name) o) os a consistent i in
          let lb : is_like_first (first_named os b.name) b ≡ true = all-in (λ (o : Occurrence). is_like_first (first_named os o.name) o) os b consistent j in
          let ka : is_like f a ≡ true = rw e at la in
          let kb : is_like f b ≡ true = rw (← n, e) at lb in
          sym (like_kind f a ka named) ∙ like_kind f b kb (named ∙ n)

-- a pattern's occurrences are no contexts
abbrev Plain : Pattern → Type 0
Plain p = (o : Occurrence) → In o (occurrences_in p) → o.is_context ≡ false

plain_bodies : (subs : List PBound) → OfEachBody Plain subs → (o : Occurrence) → In o (flat_map occurrences_in_bound subs) → o.is_context ≡ false
plain_bodies [] h o i = absurd i
plain_bodies (b ∷ bs) h o i = elim (in-split o (occurrences_in_bound b) (flat_map occurrences_in_bound bs) i) [
  | inl j ↦ h.0 o (subst (In o) (occurrences_in_bound-is b) j)
  | inr j ↦ plain_bodies bs h.1 o j
]

plain_args : (args : List Pattern) → OfEachArg Plain args → (o : Occurrence) → In o (flat_map occurrences_in args) → o.is_context ≡ false
plain_args [] h o i = absurd i
plain_args (a ∷ rest) h o i = elim (in-split o (occurrences_in a) (flat_map occurrences_in rest) i) [
  | inl j ↦ h.0 o j
  | inr j ↦ plain_args rest h.1 o j
]

plain_meta : (name : Sym) (ctxs : List Sym) (args : List Pattern) → ((o : Occurrence) → In o (flat_map occurrences_in args) → o.is_context ≡ false) → (o : Occurrence) →
    In o (record { is_context = false; name = name; ctxs = ctxs; levels = map variable_level args } ∷ flat_map occurrences_in args) → o.is_context ≡ false
plain_meta name ctxs args h o (inl e) = ap (λ (x : Occurrence). x.is_context) (sym e)
plain_meta name ctxs args h o (inr i) = h o i

pub plain : (p : Pattern) (o : Occurrence) → In o (occurrences_in p) → o.is_context ≡ false
plain =
    each_pattern Plain (λ l o i. absurd (subst (In o) (occurrences_in-Var l) i)) (λ op ps subs h o i. plain_bodies subs h o (subst (In o) (occurrences_in-Op op ps subs) i))
    (λ n cs args h o i. plain_meta n cs args (plain_args args h) o (subst (In o) (occurrences_in-Meta n cs args) i))

pub plain_each : (args : List Pattern) (o : Occurrence) → In o (flat_map occurrences_in args) → o.is_context ≡ false
plain_each [] o i = absurd i
plain_each (a ∷ rest) o i = elim (in-split o (occurrences_in a) (flat_map occurrences_in rest) i) [ inl j ↦ plain a o j | inr j ↦ plain_each rest o j ]

abbrev pub context_at : Sym → List Sym → List Pattern → Occurrence
context_at name ctxs args = record { is_context = true; name = name; ctxs = ctxs; levels = map variable_level args }

-- the contexts among the items are those that occur
pub occurs_context : (items : List Item) (o : Occurrence) → In o (flat_map occurrences_in_item items) → o.is_context ≡ true → has (contexts_among items) o.name ≡ true
occurs_context [] o i e = absurd i
occurs_context (Hyp p ∷ is) o i e = elim (in-split o (occurrences_in p) (flat_map occurrences_in_item is) i) [
  | inl j ↦ let f = plain p o j in absurd cc
  | inr j ↦ occurs_context is o j e
]
occurs_context (Ctx name ctxs args ∷ is) o i e = elim (in-split o (context_at name ctxs args ∷ flat_map occurrences_in args) (flat_map occurrences_in_item is) i) [
  | inl j ↦ elim j [ inl k ↦ let same : name ≡ o.name = ap (λ (x : Occurrence). x.name) k in rw same (grind (arith, nat_tests, common_steps)) | inr k ↦ let f = plain_each args o k in absurd cc ]
  | inr j ↦ let rest = occurs_context is o j e in grind (arith, common_steps, rest)
]

pub record ContextIn (items : List Item) (name : Sym) : Type 0 where
  pub at : Occurrence
  pub there : In at (flat_map occurrences_in_item items)
  pub named : at.name ≡ name
  pub context : at.is_context ≡ true

pub context_occurs : (items : List Item) (name : Sym) → has (contexts_among items) name ≡ true → ContextIn items name
context_occurs [] name e = absurd cc
context_occurs (Hyp p ∷ is) name e =
    let r = context_occurs is name e in
    record { at = r.at; there = in-right r.at (occurrences_in p) (flat_map occurrences_in_item is) r.there; named = r.named; context = r.context }
context_occurs (Ctx other ctxs args ∷ is) name e = by (nat_eq other.0 name.0) refl e (context_occurs is name)
  where
    by : (b : Bool) → nat_eq other.0 name.0 ≡ b → (b || has (contexts_among is) name) ≡ true → (has (contexts_among is) name ≡ true → ContextIn is name) → ContextIn (Ctx other ctxs args ∷ is) name
    by true t k rest = record { at = context_at other ctxs args; there = inl refl; named = same_name other name t; context = refl }
    by false t k rest =
        let r = rest k in
        record {
          at = r.at;
          there = in-right r.at (context_at other ctxs args ∷ flat_map occurrences_in args) (flat_map occurrences_in_item is) r.there;
          named = r.named;
          context = r.context;
        }

-- what the names of a list keep
pub has_all-has : (known names : List Sym) (name : Sym) → has_all known names ≡ true → has names name ≡ true → has known name ≡ true
has_all-has known [] name e i = absurd cc
has_all-has known (x ∷ xs) name e i = by (nat_eq x.0 name.0) refl i (has_all-has known xs name (grind (arith, common_steps)))
  where
    by : (b : Bool) → nat_eq x.0 name.0 ≡ b → (b || has xs name) ≡ true → (has xs name ≡ true → has known name ≡ true) → has known name ≡ true
    by true t k rest = let here : has known x ≡ true = grind (arith, common_steps) in let same = same_name x name t in rw same at here
    by false t k rest = rest k
