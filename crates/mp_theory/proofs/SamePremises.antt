-- The instances of a rule's premises depend on the values of what its conclusion names and of its needs alone.
use Rattle.std.proofs.Common.{◌≡◌, inl, inr, List, [], ◌∷◌, map, Bool, true, false, nat_eq, refl, sym, ap, ◌∙◌, ◌||◌}
use Rattle.std.specs.List.{flat_map}
use Rattle.mp_logic.specs.declared.sym.Sym.{Sym}
use Rattle.mp_schema.specs.declared.schema.Schema.{Schema}
use Rattle.mp_schema.specs.Conditions.{has, has_all}
use Rattle.mp_schema.specs.Occurrences.{In, Occurrence, occurrences_in_schema, holes_in_schema}
use Rattle.mp_schema.specs.Sequents.{Instance, seq}
use Rattle.mp_schema.proofs.Agreeing.{and_both, SameAt, SameHole, same_seq}
use Rattle.mp_schema.proofs.Lists.{in-flat}
use Rattle.mp_schema.proofs.UseKinds.{kind_of, same_name}
use Rattle.mp_theory.specs.declared.rule.Need.{Need}
use Rattle.mp_theory.specs.Needs.{needs_of}
use Rattle.mp_theory.proofs.Sound.{IsSound}
use Rattle.mp_theory.proofs.Transfer.{kind_of_need, transfer}

has-in : (xs : List Sym) (name : Sym) → has xs name ≡ true → In name xs
has-in [] name e = absurd cc
has-in (x ∷ xs) name e = by (nat_eq x.0 name.0) refl e (has-in xs name)
  where
    by : (b : Bool) → nat_eq x.0 name.0 ≡ b → (b || has xs name) ≡ true → (has xs name ≡ true → In name xs) → In name (x ∷ xs)
    by true t k rest = inl (same_name x name t)
    by false t k rest = inr (rest k)

has_all-in : (known names : List Sym) (name : Sym) → has_all known names ≡ true → In name names → has known name ≡ true
has_all-in known [] name e i = absurd i
has_all-in known (x ∷ xs) name e (inl same) = ap (has known) (sym same) ∙ (and_both (has known x) (has_all known xs) e).0
has_all-in known (x ∷ xs) name e (inr i) = has_all-in known xs name (and_both (has known x) (has_all known xs) e).1 i

module _ (ps : List Schema) (c : Schema) (rule : IsSound ps c) (u w : Instance) (ambient : u.ambient ≡ w.ambient)
    (known : (o : Occurrence) → In o (occurrences_in_schema c) → SameAt u w (kind_of o)) (holes : (name : Sym) → In name (holes_in_schema c) → SameHole u w name)
    (needed : (n : Need) → In n (needs_of ps c) → SameAt u w (kind_of_need n)) where
  same_holes : (p : Schema) → In p ps → (name : Sym) → In name (holes_in_schema p) → SameHole u w name
  same_holes p j name k =
      holes name (has-in (holes_in_schema c) name (has_all-in (holes_in_schema c) (flat_map holes_in_schema ps) name rule.filled (in-flat holes_in_schema ps p name j k)))

  same_premise : (p : Schema) → In p ps → seq u p ≡ seq w p
  same_premise p j = same_seq u w ambient p (rule.placed p j) (λ o k. transfer ps c rule.even (SameAt u w) known needed p o j k) (same_holes p j)

  same_each : (qs : List Schema) → ((p : Schema) → In p qs → In p ps) → map (seq u) qs ≡ map (seq w) qs
  same_each [] k = refl
  same_each (p ∷ qs) k =
      let here = same_premise p (k p (inl refl)) in
      let rest = same_each qs (λ q j. k q (inr j)) in
      rw (here, rest) refl

  pub same_premises : map (seq u) ps ≡ map (seq w) ps
  same_premises = same_each ps (λ p j. j)
