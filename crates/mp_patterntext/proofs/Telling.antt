-- Faults that are told exactly where something isn't kept, but for those of variables that aren't bound.
use Rattle.std.proofs.Common.{true≢false, ◌≡◌, ℕ, ◌++◌, List, [], ◌∷◌, length, Bool, true, false, not, nat_le, Option, None, Some, slice_get, refl, sym, subst, ap, ◌∙◌, inl, inr, arith}
use Rattle.std.specs.List.{list_all, flat_map}
use Rattle.std.proofs.lemmas.Bool.{and_parts, and_from}
use Rattle.std.proofs.lemmas.Bool.Decides.{nat_tests}
use Rattle.std.proofs.lemmas.Option.{slice_get_cases}
use Rattle.mp_words.specs.declared.fail.TextErr.{TextErr}
use Rattle.mp_words.specs.declared.fail.TextWhy.{TextWhy}
use Rattle.mp_words.specs.Faults.{fault_at_any, fault_if}
use Rattle.mp_words.proofs.NoFaults.{nil_parts}
use Rattle.mp_patterntext.specs.Unbound.{is_unbound}

-- each of the faults is told of a variable that isn't bound
abbrev pub OnlyUnbound : List TextErr → Type 0
OnlyUnbound [] = Unit {0}
OnlyUnbound (f ∷ fs) = (is_unbound f.why ≡ true) × OnlyUnbound fs

-- where there is no fault this is kept, and where it is kept only unbound variables are told
pub record Tells (fs : List TextErr) (P : Type 0) : Type 0 where
  pub kept : fs ≡ [] → P
  pub told : P → OnlyUnbound fs

pub only_both : (fs gs : List TextErr) → OnlyUnbound fs → OnlyUnbound gs → OnlyUnbound (fs ++ gs)
only_both [] gs h k = k
only_both (f ∷ fs) gs h k = (h.0, only_both fs gs h.1 k)

-- where all variables are bound, no fault is at
pub none_left : (fs : List TextErr) → OnlyUnbound fs → list_all (λ (f : TextErr). not (is_unbound f.why)) fs ≡ true → fs ≡ []
none_left [] h e = refl
none_left (f ∷ fs) h e = absurd (true≢false (sym (and_parts (not (is_unbound f.why)) _ e).0 ∙ ap not h.0))

module _ {P Q : Type 0} where
  -- the first part is kept where the second one has no fault
  pub tells_then : (fs gs : List TextErr) → (fs ≡ [] → gs ≡ [] → P) → (P → OnlyUnbound fs) → Tells gs Q → Tells (fs ++ gs) (P × Q)
  tells_then fs gs k t b = record {
    kept = λ e. let parts = nil_parts fs gs e in (k parts.0 parts.1, b.kept parts.1);
    told = λ q. only_both fs gs (t q.0) (b.told q.1);
  }

  pub tells_both : (fs gs : List TextErr) → Tells fs P → Tells gs Q → Tells (fs ++ gs) (P × Q)
  tells_both fs gs a b = tells_then fs gs (λ e f. a.kept e) a.told b

  pub tells_by : (fs : List TextErr) → Tells fs P → (P → Q) → (Q → P) → Tells fs Q
  tells_by fs a f g = record { kept = λ e. f (a.kept e); told = λ q. a.told (g q) }

pub tells_if : (b : Bool) (l : ℕ) (w : TextWhy) → Tells (fault_if b l w) (b ≡ false)
tells_if true l w = record { kept = λ e. absurd cc; told = λ e. absurd (true≢false e) }
tells_if false l w = record { kept = λ e. refl; told = λ e. tt }

pub tells_unless : (b : Bool) (l : ℕ) (w : TextWhy) → Tells (fault_if (not b) l w) (b ≡ true)
tells_unless true l w = record { kept = λ e. refl; told = λ e. tt }
tells_unless false l w = record { kept = λ e. absurd cc; told = λ e. absurd (true≢false (sym e)) }

module _ {X : Type 0} where
  none_at : (place : X → ℕ) (w : TextWhy) (o : Option X) → fault_at_any place w o ≡ [] → o ≡ None
  none_at place w None h = refl
  none_at place w (Some x) h = absurd cc

  pub tells_each : (f : X → List TextErr) (p : X → Bool) → ((x : X) → Tells (f x) (p x ≡ true)) → (xs : List X) → Tells (flat_map f xs) (list_all p xs ≡ true)
  tells_each f p h [] = record { kept = λ e. refl; told = λ e. tt }
  tells_each f p h (x ∷ xs) = tells_by (f x ++ flat_map f xs) (tells_both (f x) (flat_map f xs) (h x) (tells_each f p h xs)) (λ q. and_from (p x) (list_all p xs) q.0 q.1) (and_parts (p x) (list_all p xs))

  -- at the first one too many
  pub tells_past : (place : X → ℕ) (w : TextWhy) (n : ℕ) (xs : List X) → Tells (fault_at_any place w (slice_get xs n)) (nat_le (length xs) n ≡ true)
  tells_past place w n xs = elim (slice_get_cases xs n).1 as (λ c. Tells (fault_at_any place w (slice_get xs n)) (nat_le (length xs) n ≡ true)) [
    | inl e ↦
        record {
          kept = λ f. absurd (let q : None ≡ Some e.0 = sym (none_at place w (slice_get xs n) f) ∙ e.2 in cc);
          told = λ f. absurd (let more = e.1 in grind (arith, nat_tests, more, f));
        }
    | inr e ↦
        record {
          kept = λ f. let few = e.0 in grind (arith, nat_tests, few);
          told = λ f. subst (λ o. OnlyUnbound (fault_at_any place w o)) (sym e.1) tt;
        }
  ]
