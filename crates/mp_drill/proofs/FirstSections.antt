-- The events of goals, where the first section of each goal is kept.
use Rattle.std.proofs.Common.{◌≡◌, ℕ, ◌++◌, nat_eq, List, [], ◌∷◌, map, cond, Option, Some, None, Bool, true, false, ◌||◌, slice_get, refl, ap, sym, subst, ◌∙◌}
use Rattle.std.specs.Prelude.{if◌then◌else◌}
use Rattle.std.specs.List.{find}
use Rattle.std.specs.Option.{option_and_then}
use Rattle.std.proofs.lemmas.Bool.{eqb-true}
use Rattle.std.proofs.lemmas.List.{map-append}
use Rattle.mp_logic.specs.declared.sym.Sym.{Sym}
use Rattle.mp_names.specs.Sets.{is_met, place_of, with_met}
use Rattle.mp_names.proofs.Meeting.{eq_comm}
use Rattle.mp_names.proofs.Places.{found_at}
use Rattle.mp_drill.specs.declared.schedule.Event.{Event}
use Rattle.mp_drill.specs.declared.schedule.Section.{Section}
use Rattle.mp_drill.specs.Sections.{events_of}

abbrev pub numbers_of : List Section → List ℕ
numbers_of = map (λ (s : Section). s.goal.0)

-- ## Where they stand

-- the events of a section that may be absent
abbrev pub events_in : Option Section → List Event
events_in None = []
events_in (Some s) = s.events

found_events : (ss : List Section) (name : Sym) → events_of ss name ≡ events_in (find (λ s. nat_eq s.goal.0 name.0) ss)
found_events [] name = refl
found_events (s ∷ ss) name = by (nat_eq s.goal.0 name.0) (found_events ss name)
  where
    rest : Option Section
    rest = find (λ (x : Section). nat_eq x.goal.0 name.0) ss

    by : (b : Bool) → events_of ss name ≡ events_in rest → (if b then s.events else events_of ss name) ≡ events_in (cond b (Some s) rest)
    by true e = refl
    by false e = e

-- the events of a goal stand at its place
pub events_at : (ss : List Section) (met : List ℕ) (name : Sym) → met ≡ numbers_of ss → events_of ss name ≡ events_in (option_and_then (slice_get ss) (place_of met name.0))
events_at ss met name is =
    found_events ss name ∙ ap events_in (found_at (λ (s : Section). s.goal.0) ss name.0 ∙ ap (λ ns. option_and_then (slice_get ss) (place_of ns name.0)) (sym is))

-- ## Whose section is kept

-- what stands behind a goal's section doesn't matter to the goal
events_held : (kept xs ys : List Section) (name : Sym) → is_met (numbers_of kept) name.0 ≡ true → events_of (kept ++ xs) name ≡ events_of (kept ++ ys) name
events_held [] xs ys name h = absurd cc
events_held (k ∷ kept) xs ys name h = by (nat_eq k.goal.0 name.0) refl (events_held kept xs ys name)
  where
    met : Bool
    met = is_met (numbers_of kept) name.0

    by : (b : Bool) → nat_eq k.goal.0 name.0 ≡ b → (met ≡ true → events_of (kept ++ xs) name ≡ events_of (kept ++ ys) name)
        → (if b then k.events else events_of (kept ++ xs) name) ≡ (if b then k.events else events_of (kept ++ ys) name)
    by true e rest = refl
    by false e rest = rest (subst (λ c. (c || met) ≡ true) (eq_comm name.0 k.goal.0 ∙ e) h)

-- another goal's section doesn't matter to the goal
events_without : (kept rest : List Section) (s : Section) (name : Sym) → nat_eq s.goal.0 name.0 ≡ false → events_of (kept ++ s ∷ rest) name ≡ events_of (kept ++ rest) name
events_without [] rest s name e = ap (λ b. if b then s.events else events_of rest name) e
events_without (k ∷ kept) rest s name e = ap (λ (es : List Event). if nat_eq k.goal.0 name.0 then k.events else es) (events_without kept rest s name e)

-- a second section of a goal doesn't matter
pub second_dropped : (kept rest : List Section) (s : Section) → is_met (numbers_of kept) s.goal.0 ≡ true → (name : Sym) → events_of (kept ++ rest) name ≡ events_of (kept ++ s ∷ rest) name
second_dropped kept rest s h name = by (nat_eq s.goal.0 name.0) refl
  where
    by : (b : Bool) → nat_eq s.goal.0 name.0 ≡ b → events_of (kept ++ rest) name ≡ events_of (kept ++ s ∷ rest) name
    by true e = events_held kept rest (s ∷ rest) name (subst (λ n. is_met (numbers_of kept) n ≡ true) (eqb-true s.goal.0 name.0 e) h)
    by false e = sym (events_without kept rest s name e)

-- a goal's first section goes last, as its name does
pub first_kept : (kept : List Section) (s : Section) → is_met (numbers_of kept) s.goal.0 ≡ false → with_met (numbers_of kept) s.goal.0 ≡ numbers_of (kept ++ s ∷ [])
first_kept kept s h =
    let met = numbers_of kept in
    ap (λ b. if b then met else met ++ s.goal.0 ∷ []) h ∙ sym (map-append (λ (x : Section). x.goal.0) kept (s ∷ []))
