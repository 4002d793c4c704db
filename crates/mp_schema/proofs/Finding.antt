-- The first occurrence of a name in texts that stand one after the other.
use Rattle.std.proofs.Common.{◌≡◌, ℕ, ◌+◌, ◌<◌, List, ◌++◌, length, get_or, drop, Some, None, Option, sym, ◌∙◌, ap, append_assoc}
use Rattle.std.proofs.lemmas.List.Folds.{find-append}
use Rattle.std.specs.List.{flat_map}
use Rattle.std.specs.Option.{option_or, option_map}
use Rattle.mp_logic.specs.declared.sym.Sym.{Sym}
use Rattle.mp_term.proofs.SubLaws.{drop-at}
use Rattle.mp_schema.specs.declared.place.Use.{Use}
use Rattle.mp_schema.specs.Occurrences.{Occurrence, first_named}
use Rattle.mp_schema.specs.Places.{occurrence_at}

pub first_here : (a b : List Occurrence) (name : Sym) (o : Occurrence) → Some o ≡ first_named a name → first_named (a ++ b) name ≡ Some o
first_here a b name o e = find-append _ a b ∙ ap (λ r. option_or r (first_named b name)) (sym e)

pub first_later : (a b : List Occurrence) (name : Sym) → None ≡ first_named a name → first_named (a ++ b) name ≡ first_named b name
first_later a b name e = find-append _ a b ∙ ap (λ r. option_or r (first_named b name)) (sym e)

module _ {X : Type 0} (f : X → List Occurrence) (xs : List X) (i : ℕ) (x : X) (name : Sym) (h : i < length xs) (e : x ≡ get_or xs i x) where
  opened : flat_map f (drop i xs) ≡ f x ++ flat_map f (drop (i + 1) xs)
  opened = ap (flat_map f) (drop-at xs i x h e)

  -- where the item at place i has one, it is the first from there on
  pub found_at : (o : Occurrence) → Some o ≡ first_named (f x) name → first_named (flat_map f (drop i xs)) name ≡ Some o
  found_at o here = ap (λ os. first_named os name) opened ∙ first_here (f x) _ name o here

  -- where it has none, the search goes on
  pub not_at : (r : Option Use) → option_map occurrence_at r ≡ first_named (f x) name → r ≡ None →
      first_named (flat_map f (drop i xs)) name ≡ first_named (flat_map f (drop (i + 1) xs)) name
  not_at r answer none = ap (λ os. first_named os name) opened ∙ first_later (f x) _ name (ap (option_map occurrence_at) (sym none) ∙ answer)

  module _ (tail : List Occurrence) where
    opened_before : flat_map f (drop i xs) ++ tail ≡ f x ++ (flat_map f (drop (i + 1) xs) ++ tail)
    opened_before = ap (λ os. os ++ tail) opened ∙ append_assoc (f x) _ tail

    -- the same before a further text
    pub found_before : (o : Occurrence) → Some o ≡ first_named (f x) name → first_named (flat_map f (drop i xs) ++ tail) name ≡ Some o
    found_before o here = ap (λ os. first_named os name) opened_before ∙ first_here (f x) _ name o here

    pub not_before : (r : Option Use) → option_map occurrence_at r ≡ first_named (f x) name → r ≡ None →
        first_named (flat_map f (drop i xs) ++ tail) name ≡ first_named (flat_map f (drop (i + 1) xs) ++ tail) name
    not_before r answer none =
        ap (λ os. first_named os name) opened_before ∙ first_later (f x) _ name (ap (option_map occurrence_at) (sym none) ∙ answer)
