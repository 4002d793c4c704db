-- What stands before the items of a schema, as a walk from left to right finds it.
use Rattle.std.proofs.Common.{◌≡◌, ℕ, ◌+◌, ◌<◌, ◌≤◌, List, [], ◌∷◌, ◌++◌, length, get_or, take, drop, Bool, true, false, ◌&&◌, ◌||◌, nat_eq, add-one, refl, ap, sym, ◌∙◌}
use Rattle.std.proofs.lemmas.List.{take_more}
use Rattle.std.proofs.Math.ListN.{drop_of_length-le}
use Rattle.mp_logic.specs.declared.sym.Sym.{Sym}
use Rattle.mp_schema.specs.declared.pattern.Pattern.{Pattern}
use Rattle.mp_schema.specs.declared.schema.Item.{Item}
use Rattle.mp_schema.specs.declared.schema.Item.TheVariants.{Ctx, Hyp}
use Rattle.mp_schema.specs.Conditions.{Before, nothing_before, past, past_all, each_item, has, has_all, contexts_among}
use Rattle.mp_schema.specs.Occurrences.{Occurrence}
use Rattle.mp_schema.specs.Faults.{all_listed}
use Rattle.mp_term.proofs.SubLaws.{drop-at}

-- what stands before the item at this place
abbrev pub before_at : List Item → ℕ → Before
before_at items i = past_all (take i items) nothing_before

pub past_all-append : (xs ys : List Item) (b : Before) → past_all (xs ++ ys) b ≡ past_all ys (past_all xs b)
past_all-append [] ys b = refl
past_all-append (x ∷ xs) ys b = past_all-append xs ys (past x b)

pub before-next : (items : List Item) (i : ℕ) (x : Item) → i < length items → x ≡ get_or items i x → before_at items (i + 1) ≡ past x (before_at items i)
before-next items i x h e =
    ap (λ xs. past_all xs nothing_before) (take_more items i x h ∙ ap (λ y. take i items ++ y ∷ []) (sym e))
    ∙ past_all-append (take i items) (x ∷ []) nothing_before

-- the items from place i on are as good with what stands before them as all items are
pub record Walked (good : Item → Before → Bool) (items : List Item) (i : ℕ) : Type 0 where
  pub left : each_item good (drop i items) (before_at items i) ≡ each_item good items nothing_before

module _ (good : Item → Before → Bool) (items : List Item) where
  module _ (i : ℕ) (x : Item) (h : i < length items) (e : x ≡ get_or items i x) (w : Walked good items i) where
    opened : each_item good items nothing_before ≡ (good x (before_at items i) && each_item good (drop (i + 1) items) (before_at items (i + 1)))
    opened =
        sym w.left ∙ ap (λ xs. each_item good xs (before_at items i)) (drop-at items i x h e)
        ∙ ap (λ b. good x (before_at items i) && each_item good (drop (i + 1) items) b) (sym (before-next items i x h e))

    pub walked-next : good x (before_at items i) ≡ true → Walked good items (i + 1)
    walked-next yes' =
        record { left = sym (opened ∙ ap (λ b. b && each_item good (drop (i + 1) items) (before_at items (i + 1))) yes') }

    pub walked-fails : good x (before_at items i) ≡ false → each_item good items nothing_before ≡ false
    walked-fails no' = opened ∙ ap (λ b. b && each_item good (drop (i + 1) items) (before_at items (i + 1))) no'

  pub walked-end : (i : ℕ) → length items ≤ i → Walked good items i → each_item good items nothing_before ≡ true
  walked-end i h w = sym w.left ∙ ap (λ xs. each_item good xs (before_at items i)) (drop_of_length-le items h)

pub named-hyp : (x : Item) (p : Pattern) (b : Before) → x ≡ Hyp p → (past x b).named ≡ b.named + 1
named-hyp x p b e = ap (λ y. (past y b).named) e

pub named-other : (x : Item) (b : Before) → ((p : Pattern) → x ≡ Hyp p → ⊥) → (past x b).named ≡ b.named
named-other (Hyp p) b no' = absurd (no' p refl)
named-other (Ctx name ctxs args) b no' = refl

pub contexts-ctx : (x : Item) (name : Sym) (ctxs : List Sym) (args : List Pattern) (b : Before) → x ≡ Ctx name ctxs args →
    length (past x b).contexts ≡ length b.contexts + 1
contexts-ctx x name ctxs args b e = ap (λ y. length (past y b).contexts) e ∙ sym (add-one (length b.contexts))

pub contexts-hyp : (x : Item) (p : Pattern) (b : Before) → x ≡ Hyp p → (past x b).contexts ≡ b.contexts
contexts-hyp x p b e = ap (λ y. (past y b).contexts) e

or_moved : (x y z : Bool) → (y || (x || z)) ≡ ((x || y) || z)
or_moved true true z = refl
or_moved true false z = refl
or_moved false true z = refl
or_moved false false z = refl

-- a context stands before a place where it is among the items before it
pub has-past : (is : List Item) (b : Before) (name : Sym) → has (past_all is b).contexts name ≡ (has (contexts_among is) name || has b.contexts name)
has-past [] b name = refl
has-past (Hyp p ∷ is) b name = has-past is (past (Hyp p) b) name
has-past (Ctx other ctxs args ∷ is) b name =
    has-past is (past (Ctx other ctxs args) b) name ∙ or_moved (nat_eq other.0 name.0) (has (contexts_among is) name) (has b.contexts name)

or_false : (x : Bool) → (x || false) ≡ x
or_false true = refl
or_false false = refl

pub has_all-same : (a b : List Sym) → ((name : Sym) → has a name ≡ has b name) → (names : List Sym) → has_all a names ≡ has_all b names
has_all-same a b same [] = refl
has_all-same a b same (x ∷ xs) = ap (λ t. t && has_all a xs) (same x) ∙ ap (λ t. has b x && t) (has_all-same a b same xs)

-- so lists may be compared with the items themselves
pub all_listed-items : (is : List Item) (os : List Occurrence) →
    all_listed (contexts_among is) os ≡ all_listed (past_all is nothing_before).contexts os
all_listed-items is [] = refl
all_listed-items is (o ∷ os) =
    let same : (name : Sym) → has (contexts_among is) name ≡ has (past_all is nothing_before).contexts name =
    λ name. sym (has-past is nothing_before name ∙ or_false (has (contexts_among is) name))
    in
    ap (λ t. t && all_listed (contexts_among is) os) (has_all-same _ _ same o.ctxs)
    ∙ ap (λ t. has_all (past_all is nothing_before).contexts o.ctxs && t) (all_listed-items is os)
