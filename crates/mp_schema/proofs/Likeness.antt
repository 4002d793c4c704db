-- Occurrences of one name are alike where each is like the first one.
use Rattle.std.proofs.Common.{◌≡◌, ℕ, List, [], ◌∷◌, length, Bool, true, false, ◌&&◌, nat_eq, Option, Some, None, refl, ap, sym, ◌∙◌, arith}
use Rattle.std.proofs.lemmas.Bool.{and_parts}
use Rattle.std.proofs.lemmas.Bool.Decides.{nat_tests}
use Rattle.std.proofs.lemmas.List.Elements.{All-contains}
use Rattle.std.proofs.lemmas.List.Sums.{AllPass-from_list_all}
use Rattle.std.specs.List.{list_all}
use Rattle.mp_logic.specs.declared.sym.Sym.{Sym}
use Rattle.mp_schema.specs.Faultless.{IsLike, AreAlike}
use Rattle.mp_schema.specs.Faults.{same_names, is_like, is_like_first, is_consistent}
use Rattle.mp_logic.specs.Lists.{same_bool}
use Rattle.mp_schema.specs.Occurrences.{Occurrence, first_named}
use Rattle.mp_schema.proofs.UseKinds.{same_bool-is, same_names-is}

-- ## Two occurrences

pub IsLike-from : (o other : Occurrence) → is_like o other ≡ true → IsLike o other
IsLike-from o other e =
    let parts = and_parts (same_bool o.is_context other.is_context && same_names o.ctxs other.ctxs) (nat_eq (length o.levels) (length other.levels)) e in
    let both = and_parts (same_bool o.is_context other.is_context) (same_names o.ctxs other.ctxs) parts.0 in
    record {
      same_kind = same_bool-is _ _ both.0;
      same_contexts = same_names-is _ _ both.1;
      same_number = grind (arith, nat_tests, parts.1);
    }

pub IsLike-both : (first o other : Occurrence) → IsLike first o → IsLike first other → IsLike o other
IsLike-both first o other a b = record {
  same_kind = sym a.same_kind ∙ b.same_kind;
  same_contexts = sym a.same_contexts ∙ b.same_contexts;
  same_number = sym a.same_number ∙ b.same_number;
}

-- ## The first one of a name

-- where an occurrence is like the first one of its name, there is one
pub like_first : (first : Option Occurrence) (o : Occurrence) → is_like_first first o ≡ true → (f : Occurrence) × (first ≡ Some f) × IsLike f o
like_first None o e = absurd (cc)
like_first (Some f) o e = (f, refl, IsLike-from f o e)

found_step : (kept : Occurrence → Bool) (o : Occurrence) (os : List Occurrence) (name : Sym) (f : Occurrence) (b : Bool) → nat_eq o.name.0 name.0 ≡ b →
    first_named (o ∷ os) name ≡ Some f → kept o ≡ true → (first_named os name ≡ Some f → (f.name ≡ name) × (kept f ≡ true)) → (f.name ≡ name) × (kept f ≡ true)
found_step kept o os name f true same e here later =
    let is : o ≡ f = grind (arith, nat_tests) in
    let number : o.name.0 ≡ name.0 = grind (arith, nat_tests) in
    (ap (λ x. x.name) (sym is) ∙ ap (λ (k : ℕ). record { 0 = k }) number, ap kept (sym is) ∙ here)
found_step kept o os name f false same e here later = later (grind (arith, nat_tests))

-- what is found has the name, and what all occurrences keep
pub found_keeps : (kept : Occurrence → Bool) (os : List Occurrence) (name : Sym) (f : Occurrence) → first_named os name ≡ Some f → list_all kept os ≡ true →
    (f.name ≡ name) × (kept f ≡ true)
found_keeps kept [] name f e all = absurd (cc)
found_keeps kept (o ∷ os) name f e all =
    let parts = and_parts (kept o) (list_all kept os) all in
    found_step kept o os name f (nat_eq o.name.0 name.0) refl e parts.0 (λ later. found_keeps kept os name f later parts.1)

abbrev pub like_use : List Occurrence → Occurrence → Bool
like_use os o = is_like_first (first_named os o.name) o

pub AreAlike-from : (os : List Occurrence) → is_consistent os ≡ true → AreAlike os
AreAlike-from os e = record {
  alike = λ o other o_in other_in same.
      let each = AllPass-from_list_all (like_use os) os e in
      let a = like_first (first_named os o.name) o (All-contains (λ x. like_use os x ≡ true) os o each o_in) in
      let b = like_first (first_named os other.name) other (All-contains (λ x. like_use os x ≡ true) os other each other_in) in
      let is : a.0 ≡ b.0 = cc (ap (first_named os) same, a.1, b.1) in
      IsLike-both b.0 o other (rw is at a.2) b.2;
}
