-- What holds of the values of a conclusion and of the needs holds of the values of the premises.
use Rattle.std.proofs.Common.{◌≡◌, ◌≤◌, ◌⊎◌, inl, inr, List, length, Bool, true, false, refl, sym, ap, ◌∙◌, subst}
use Rattle.std.specs.List.{flat_map}
use Rattle.mp_schema.specs.declared.schema.Schema.{Schema}
use Rattle.mp_schema.specs.Conditions.{has, has_all, context_names}
use Rattle.mp_schema.specs.Faults.{is_consistent, occurrences_of_rule}
use Rattle.mp_schema.specs.Occurrences.{Occurrence, occurrences_in, occurrences_in_item, occurrences_in_schema}
use Rattle.mp_theory.specs.declared.rule.Need.{Need}
use Rattle.mp_theory.specs.Needs.{needs_of}
use Rattle.mp_schema.specs.Occurrences.{In}
use Rattle.mp_schema.proofs.Lists.{in-left, in-right, in-split, in-flat}
use Rattle.mp_schema.proofs.UseKinds.{Kind, kind_of, same_kinds, context_occurs, occurs_context, has_all-has, plain}
use Rattle.mp_theory.proofs.Uses.{UsedIn, NeedIn, need-met, need-from}

abbrev pub kind_of_need : Need → Kind
kind_of_need n = record { is_context = false; name = n.name; ctxs = n.ctxs; count = n.arity }

need_kind : (n : Need) (o : Occurrence) → n.arity ≡ length o.levels → o.name ≡ n.name → o.ctxs ≡ n.ctxs → o.is_context ≡ false → kind_of_need n ≡ kind_of o
need_kind n o count names lists plain = rw (count, names, lists, plain) refl

-- a context that occurs is one of the items
pub occurs_in_items : (p : Schema) (o : Occurrence) → In o (occurrences_in_schema p) → o.is_context ≡ true → has (context_names p) o.name ≡ true
occurs_in_items p o j e = elim (in-split o (flat_map occurrences_in_item p.items) (occurrences_in p.concl) j) [
  | inl k ↦ occurs_context p.items o k e
  | inr k ↦ let f = plain p.concl o k in absurd cc
]

module _ (ps : List Schema) (c : Schema) where
  -- what the transfer asks of a rule
  pub record IsEven : Type 0 where
    pub consistent : is_consistent (occurrences_of_rule ps c) ≡ true
    pub listed : (p : Schema) → In p ps → has_all (context_names c) (context_names p) ≡ true
    pub few : (p : Schema) (o : Occurrence) → In p ps → In o (occurrences_in_schema p) → length o.levels ≤ 8

  module _ (even : IsEven) where
    in_rule : (p : Schema) (o : Occurrence) → In p ps → In o (occurrences_in_schema p) → In o (occurrences_of_rule ps c)
    in_rule p o i j = in-left o (flat_map occurrences_in_schema ps) (occurrences_in_schema c) (in-flat occurrences_in_schema ps p o i j)

    in_rule_end : (o : Occurrence) → In o (occurrences_in_schema c) → In o (occurrences_of_rule ps c)
    in_rule_end o j = in-right o (flat_map occurrences_in_schema ps) (occurrences_in_schema c) j

    module _ (Q : Kind → Type 0) (known : (o : Occurrence) → In o (occurrences_in_schema c) → Q (kind_of o)) (needed : (n : Need) → In n (needs_of ps c) → Q (kind_of_need n)) where
      by_known : (p : Schema) (o other : Occurrence) → In p ps → In o (occurrences_in_schema p) → In other (occurrences_in_schema c) → other.name ≡ o.name → Q (kind_of o)
      by_known p o other i j k n =
          subst Q (same_kinds (occurrences_of_rule ps c) even.consistent other o (in_rule_end other k) (in_rule p o i j) n) (known other k)

      by_need : (p : Schema) (o : Occurrence) (n : Need) → In p ps → In o (occurrences_in_schema p) → In n (needs_of ps c) → n.name ≡ o.name → Q (kind_of o)
      by_need p o n i j k e =
          let f = need-from ps c n k in
          let count : n.arity ≡ length f.at.levels = sym (ap (λ (m : Need). m.arity) f.same) in
          let names : f.at.name ≡ n.name = ap (λ (m : Need). m.name) f.same in
          let lists : f.at.ctxs ≡ n.ctxs = ap (λ (m : Need). m.ctxs) f.same in
          subst Q (need_kind n f.at count names lists f.plain ∙ same_kinds (occurrences_of_rule ps c) even.consistent f.at o (in_rule f.premise f.at f.in_premises f.there) (in_rule p o i j) (names ∙ e)) (needed n k)

      pub transfer : (p : Schema) (o : Occurrence) → In p ps → In o (occurrences_in_schema p) → Q (kind_of o)
      transfer p o i j = by o.is_context refl
        where
          by_use : UsedIn (occurrences_in_schema c) o.name ⊎ NeedIn (needs_of ps c) o.name → Q (kind_of o)
          by_use (inl u) = by_known p o u.at i j u.there u.named
          by_use (inr n) = by_need p o n.need i j n.there n.named

          by : (b : Bool) → o.is_context ≡ b → Q (kind_of o)
          by true e =
              let named = occurs_in_items p o j e in
              let there = has_all-has (context_names c) (context_names p) o.name (even.listed p i) named in
              let f = context_occurs c.items o.name there in
              by_known p o f.at i j (in-left f.at (flat_map occurrences_in_item c.items) (occurrences_in c.concl) f.there) f.named
          by false e = by_use (need-met ps c p o i j e)
