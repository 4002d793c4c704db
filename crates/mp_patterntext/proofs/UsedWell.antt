-- What is asked of occurrences, in its parts.
use Rattle.std.proofs.Common.{◌≡◌, List, [], ◌∷◌, Bool, true, false, ◌&&◌, ◌||◌, not, refl}
use Rattle.std.specs.List.{list_all}
use Rattle.std.proofs.lemmas.Bool.{and_parts, and_from}
use Rattle.mp_logic.specs.declared.sym.Sym.{Sym}
use Rattle.mp_schema.specs.Conditions.{has_all, is_apart}
use Rattle.mp_schema.specs.Faults.{all_listed, are_distinct, lists_apart, on_variables}
use Rattle.mp_schema.specs.Occurrences.{Occurrence}
use Rattle.mp_patterntext.proofs.Fitting.{use_test}

pub or_and : (b x y : Bool) → (b || x) ≡ true → (b || y) ≡ true → (b || (x && y)) ≡ true
or_and true x y h k = refl
or_and false x y h k = and_from x y h k

pub or_and_parts : (b x y : Bool) → (b || (x && y)) ≡ true → ((b || x) ≡ true) × ((b || y) ≡ true)
or_and_parts true x y h = (refl, refl)
or_and_parts false x y h = and_parts x y h

-- what is asked of occurrences, in its parts
pub record UsedWell (known : List Sym) (final : Bool) (os : List Occurrence) : Type 0 where
  pub listed : all_listed known os ≡ true
  pub apart : lists_apart os ≡ true
  pub distinct : (not final || on_variables os) ≡ true

module _ (known : List Sym) (final : Bool) where
  pub used_well : (os : List Occurrence) → list_all (use_test known final) os ≡ true → UsedWell known final os
  used_well [] h = record { listed = refl; apart = refl; distinct = or_true (not final) }
    where
      or_true : (b : Bool) → (b || true) ≡ true
      or_true true = refl
      or_true false = refl
  used_well (o ∷ os) h =
      let all = and_parts (use_test known final o) (list_all (use_test known final) os) h in
      let last = and_parts (has_all known o.ctxs && is_apart o.ctxs) (not final || are_distinct o.levels) all.0 in
      let first = and_parts (has_all known o.ctxs) (is_apart o.ctxs) last.0 in
      let rest = used_well os all.1 in
      record { listed = and_from _ _ first.0 rest.listed; apart = and_from _ _ first.1 rest.apart; distinct = or_and (not final) _ _ last.1 rest.distinct }

  pub well_used : (os : List Occurrence) → UsedWell known final os → list_all (use_test known final) os ≡ true
  well_used [] h = refl
  well_used (o ∷ os) h =
      let listed = and_parts (has_all known o.ctxs) (all_listed known os) h.listed in
      let apart = and_parts (is_apart o.ctxs) (lists_apart os) h.apart in
      let distinct = or_and_parts (not final) (are_distinct o.levels) (on_variables os) h.distinct in
      and_from _ _ (and_from _ _ (and_from _ _ listed.0 apart.0) distinct.0) (well_used os (record { listed = listed.1; apart = apart.1; distinct = distinct.1 }))
