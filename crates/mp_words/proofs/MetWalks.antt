-- The names that are met along a list.
use Rattle.std.proofs.Common.{◌≡◌, ◌++◌, ◌+◌, ◌<◌, ℕ, List, [], ◌∷◌, ap, sym, ◌∙◌, append_assoc, map, take, length, get_or}
use Rattle.std.proofs.lemmas.List.{map-append, take_more}
use Rattle.mp_logic.specs.declared.sym.Sym.{Sym}
use Rattle.mp_names.specs.Sets.{Met, is_among, is_met, with_met}
use Rattle.mp_names.proofs.Meeting.{meeting}

module _ {X : Type 0} (name : X → Sym) (xs : List X) (i : ℕ) (x : X) (lt : i < length xs) (is : x ≡ get_or xs i x) where
  -- one name more
  pub names_next : map name (take (i + 1) xs) ≡ map name (take i xs) ++ name x ∷ []
  names_next = ap (map name) (take_more xs i x lt ∙ ap (λ y. take i xs ++ y ∷ []) (sym is)) ∙ map-append name (take i xs) (x ∷ [])

  -- the names that were met go on to the next item, behind some that were met before
  pub met_next : (front : List Sym) (met after : List ℕ) → Met met (front ++ map name (take i xs)) → after ≡ with_met met (name x).0 → Met after (front ++ map name (take (i + 1) xs))
  met_next front met after h e other =
      ap (λ m. is_met m other.0) e ∙ meeting met (front ++ map name (take i xs)) (name x) h other
      ∙ ap (λ ns. is_among ns other) (append_assoc front (map name (take i xs)) (name x ∷ []) ∙ ap (λ ns. front ++ ns) (sym names_next))
