-- Names in lists that stand one after the other.
use Rattle.std.proofs.Common.{◌≡◌, List, [], ◌∷◌, ◌++◌, Bool, true, false, nat_eq, ◌||◌, ◌&&◌, refl, ap, sym, ◌∙◌}
use Rattle.std.proofs.lemmas.Grind.{common_steps}
use Rattle.mp_logic.specs.declared.sym.Sym.{Sym}
use Rattle.mp_schema.specs.Conditions.{has, has_all}
use Rattle.mp_schema.proofs.Layers.{holes_in-Op, holes_in-Meta, holes_in_bound-is}

pub or_assoc : (a b c : Bool) → ((a || b) || c) ≡ (a || (b || c))
or_assoc true b c = refl
or_assoc false b c = refl

pub and_assoc : (a b c : Bool) → ((a && b) && c) ≡ (a && (b && c))
and_assoc true b c = refl
and_assoc false b c = refl

pub has-append : (xs ys : List Sym) (name : Sym) → has (xs ++ ys) name ≡ (has xs name || has ys name)
has-append [] ys name = refl
has-append (x ∷ xs) ys name =
    ap (λ b. nat_eq x.0 name.0 || b) (has-append xs ys name) ∙ sym (or_assoc (nat_eq x.0 name.0) (has xs name) (has ys name))

pub has_all-append : (known xs ys : List Sym) → has_all known (xs ++ ys) ≡ (has_all known xs && has_all known ys)
has_all-append known [] ys = refl
has_all-append known (x ∷ xs) ys =
    ap (λ b. has known x && b) (has_all-append known xs ys) ∙ sym (and_assoc (has known x) (has_all known xs) (has_all known ys))

-- what a walk over the holes of a text needs
pub ruleset appended = (common_steps, has-append, has_all-append, holes_in-Op, holes_in-Meta, holes_in_bound-is)
