-- What a walk that enters first uses needs.
use Rattle.std.proofs.Common.{◌≡◌, List, [], ◌∷◌, ◌&&◌, Option, None, Some, refl, ap, ◌∙◌}
use Rattle.std.proofs.lemmas.Grind.{common_steps}
use Rattle.std.proofs.lemmas.List.Folds.{find-append}
use Rattle.std.specs.List.{list_all}
use Rattle.std.specs.Option.{option_or}
use Rattle.mp_logic.specs.declared.sym.Sym.{Sym}
use Rattle.mp_schema.specs.declared.first_uses.FirstUses.{FirstUses}
use Rattle.mp_schema.specs.Faults.{is_like_first}
use Rattle.mp_schema.specs.Occurrences.{Occurrence, first_named}
use Rattle.mp_schema.specs.Tables.{use_of}
use Rattle.mp_schema.proofs.Layers.{occurrences_in-Op, occurrences_in-Meta, occurrences_in_bound-is}

-- to enter what is left into the table gives the same uses as to enter all of it into the one at the start
abbrev pub IsOnTheWay : FirstUses → List Occurrence → FirstUses → List Occurrence → Type 0
IsOnTheWay start all now left = (name : Sym) → option_or (use_of now name) (first_named left name) ≡ option_or (use_of start name) (first_named all name)

pub or_assoc : {X : Type 0} (o p q : Option X) → option_or (option_or o p) q ≡ option_or o (option_or p q)
or_assoc None p q = refl
or_assoc (Some x) p q = refl

pub ruleset entering = (common_steps, find-append, or_assoc, occurrences_in-Op, occurrences_in-Meta, occurrences_in_bound-is)

-- where the table has the first uses, a use is like the one that is held exactly where it is like the first one
pub held_like_first : (uses : FirstUses) (all : List Occurrence) → ((name : Sym) → use_of uses name ≡ first_named all name) → (os : List Occurrence) →
    list_all (λ (o : Occurrence). is_like_first (use_of uses o.name) o) os ≡ list_all (λ (o : Occurrence). is_like_first (first_named all o.name) o) os
held_like_first uses all same [] = refl
held_like_first uses all same (o ∷ os) =
    ap (λ first. is_like_first first o && list_all (λ (p : Occurrence). is_like_first (use_of uses p.name) p) os) (same o.name)
    ∙ ap (λ b. is_like_first (first_named all o.name) o && b) (held_like_first uses all same os)
