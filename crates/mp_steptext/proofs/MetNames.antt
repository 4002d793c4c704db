-- Where names that were met one after the other stand, and what is there.
use Rattle.std.proofs.Common.{◌≡◌, ℕ, ◌++◌, List, [], ◌∷◌, Bool, true, false, ◌||◌, nat_eq, Option, None, Some, is_some, slice_get, refl, ap, sym, ◌∙◌, append-nil, append_assoc}
use Rattle.std.specs.Prelude.{if◌then◌else◌}
use Rattle.std.specs.Borrow.{Bor}
use Rattle.std.specs.List.{find, flat_map}
use Rattle.std.specs.Option.{option_and_then, option_copied}
use Rattle.std.specs.Slice.{IsItemAt}
use Rattle.std.proofs.lemmas.Option.{slice_get_past, slice_get-get_or}
use Rattle.mp_logic.specs.declared.sym.Sym.{Sym}
use Rattle.mp_names.specs.Sets.{Met, is_among, is_met, place_of, with_met}
use Rattle.mp_names.proofs.Meeting.{eq_comm, meeting, met_with}
use Rattle.mp_names.proofs.Places.{found_at, placed_met}
use Rattle.mp_theory.specs.declared.rule.Need.{Need}
use Rattle.mp_words.specs.declared.fail.TextErr.{TextErr}
use Rattle.mp_words.specs.declared.fail.TextWhy.TheVariants as why
use Rattle.mp_words.specs.Faults.{fault_if}
use Rattle.mp_words.specs.Seconds.{second_after, second_faults}
use Rattle.mp_words.proofs.NoFaults.{nil_parts, no_fault}
use Rattle.mp_steptext.specs.declared.raw.RawGiven.{RawGiven}
use Rattle.mp_steptext.specs.Names.{all_met, AreNew, given_numbers, need_numbers}
use Rattle.mp_steptext.specs.Statics.{all_given_faults, given_faults, given_of, need_of}

-- ## Numbers

or_assoc : (a b c : Bool) → ((a || b) || c) ≡ (a || (b || c))
or_assoc true b c = refl
or_assoc false b c = refl

or_false : (b : Bool) → b ≡ (b || false)
or_false true = refl
or_false false = refl

-- a number is met where it was met before, or is one of the further ones
met_by_all : (met ns : List ℕ) (m : ℕ) → is_met (all_met met ns) m ≡ (is_met met m || is_met ns m)
met_by_all met [] m = or_false (is_met met m)
met_by_all met (n ∷ ns) m = met_by_all (with_met met n) ns m ∙ ap (λ b. b || is_met ns m) (met_with met n m) ∙ or_assoc (is_met met m) (nat_eq m n) (is_met ns m)

-- one more is met last
pub all_met_last : (met ns : List ℕ) (n : ℕ) → all_met met (ns ++ n ∷ []) ≡ with_met (all_met met ns) n
all_met_last met [] n = refl
all_met_last met (m ∷ ns) n = all_met_last (with_met met m) ns n

pub with_new : (met : List ℕ) (n : ℕ) → is_met met n ≡ false → with_met met n ≡ met ++ n ∷ []
with_new met n e = ap (λ b. if b then met else met ++ n ∷ []) e

-- ## Needs and given terms

-- what a slice has at a place
pub item_at : {X : Type 0} (xs : List X) (i : ℕ) (o : Option (Bor X)) → IsItemAt xs i o → option_copied o ≡ slice_get xs i
item_at xs i None h = sym (slice_get_past xs i h.3)
item_at xs i (Some x) h = ap (λ y. Some y) h.1 ∙ sym (slice_get-get_or xs i x.now h.3.0)

need_is_found : (needs : List Need) (name : Sym) → need_of needs name ≡ find (λ n. nat_eq n.name.0 name.0) needs
need_is_found [] name = refl
need_is_found (n ∷ needs) name = ap (λ o. if nat_eq n.name.0 name.0 then Some n else o) (need_is_found needs name)

-- each stands at the place of its name
pub need_at : (needs : List Need) (names : List ℕ) (name : Sym) → names ≡ need_numbers needs → need_of needs name ≡ option_and_then (slice_get needs) (place_of names name.0)
need_at needs names name is = need_is_found needs name ∙ found_at (λ (n : Need). n.name.0) needs name.0 ∙ ap (λ ns. option_and_then (slice_get needs) (place_of ns name.0)) (sym is)

module _ {R : Type 0} where
  given_is_found : (gs : List (RawGiven R)) (name : Sym) → given_of gs name ≡ find (λ g. nat_eq g.name.name.0 name.0) gs
  given_is_found [] name = refl
  given_is_found (g ∷ gs) name = ap (λ o. if nat_eq g.name.name.0 name.0 then Some g else o) (given_is_found gs name)

  pub given_at : (gs : List (RawGiven R)) (names : List ℕ) (name : Sym) → names ≡ given_numbers gs → given_of gs name ≡ option_and_then (slice_get gs) (place_of names name.0)
  given_at gs names name is = given_is_found gs name ∙ found_at (λ (g : RawGiven R). g.name.name.0) gs name.0 ∙ ap (λ ns. option_and_then (slice_get gs) (place_of ns name.0)) (sym is)

  given_among : (gs : List (RawGiven R)) (name : Sym) → is_met (given_numbers gs) name.0 ≡ is_some (given_of gs name)
  given_among [] name = refl
  given_among (g ∷ gs) name = ap (λ b. b || is_met (given_numbers gs) name.0) (eq_comm name.0 g.name.name.0) ∙ by (nat_eq g.name.name.0 name.0) (given_among gs name)
    where
      by : (b : Bool) → is_met (given_numbers gs) name.0 ≡ is_some (given_of gs name) → (b || is_met (given_numbers gs) name.0) ≡ is_some (if b then Some g else given_of gs name)
      by true r = refl
      by false r = r

  -- a name has a place exactly where a term of this name is given
  pub given_there : (gs : List (RawGiven R)) (names : List ℕ) (name : Sym) → names ≡ all_met [] (given_numbers gs) → is_some (place_of names name.0) ≡ is_some (given_of gs name)
  given_there gs names name is = placed_met names name.0 ∙ ap (λ ns. is_met ns name.0) is ∙ met_by_all [] (given_numbers gs) name.0 ∙ given_among gs name

  new_behind : (met : List ℕ) (before : List Sym) (gs : List (RawGiven R)) → Met met before → second_after (λ g. g.name) why.TwiceWith before gs ≡ [] → all_met met (given_numbers gs) ≡ met ++ given_numbers gs
  new_behind met before [] are h = sym (append-nil met)
  new_behind met before (g ∷ gs) are h =
      let name = g.name.name in
      let both = nil_parts (fault_if (is_among before name) g.name.at why.TwiceWith) (second_after (λ (x : RawGiven R). x.name) why.TwiceWith (before ++ name ∷ []) gs) h in
      let once = no_fault (is_among before name) g.name.at why.TwiceWith both.0 in
      new_behind (with_met met name.0) (before ++ name ∷ []) gs (meeting met before name are) both.1
      ∙ ap (λ ns. ns ++ given_numbers gs) (with_new met name.0 (are name ∙ once)) ∙ append_assoc met (name.0 ∷ []) (given_numbers gs)

  -- what is given without faults has different names
  pub new_given : (arity : R → ℕ) (faults : ℕ → R → List TextErr) (needs : List Need) (gs : List (RawGiven R)) → all_given_faults arity faults needs gs ≡ [] → AreNew (given_numbers gs)
  new_given arity faults needs gs h = new_behind [] [] gs (λ name. refl) (nil_parts (flat_map (given_faults arity faults needs) gs) (second_faults (λ (x : RawGiven R). x.name) why.TwiceWith gs) h).1
