-- The entries of a map from names to laws, as the list of the laws.
use Rattle.std.proofs.Common.{◌≡◌, ℕ, ◌≤◌, List, [], ◌∷◌, ◌++◌, map, length, nat_eq, nat_lt, position, Option, Some, None, Bool, true, false, ◌||◌, refl, sym, ap, ◌∙◌, arith}
use Rattle.std.specs.List.{list_any}
use Rattle.std.proofs.lemmas.Bool.Decides.{nat_tests}
use Rattle.std.proofs.lemmas.Grind.{common_steps}
use Rattle.indexmap.specs.IndexMap.{insert_entry}
use Rattle.mp_theory.specs.declared.law.Law.{Law}
use Rattle.mp_theory.specs.Tables.{Laws, name_in}
use Rattle.mp_theory.proofs.LookUps.{map_push}

abbrev pub Entry : Type 0
Entry = ℕ × Law

abbrev pub key_of : Entry → ℕ
key_of e = e.0

abbrev pub law_in : Entry → Law
law_in e = e.1

-- the laws after one more
pub laws_push : (es : List Entry) (n : ℕ) (l : Law) → map law_in (es ++ (n, l) ∷ []) ≡ map law_in es ++ l ∷ []
laws_push es n l = map_push law_in es (n, l)

-- keys are still the laws' names
pub keys_push : (es : List Entry) (n : ℕ) (l : Law) → name_in l ≡ n → map key_of es ≡ map name_in (map law_in es) →
    map key_of (es ++ (n, l) ∷ []) ≡ map name_in (map law_in (es ++ (n, l) ∷ []))
keys_push es n l named same =
    map_push key_of es (n, l)
    ∙ ap (λ (ns : List ℕ). ns ++ n ∷ []) same
    ∙ ap (λ k. map name_in (map law_in es) ++ k ∷ []) (sym named)
    ∙ sym (map_push name_in (map law_in es) l)
    ∙ ap (map name_in) (sym (laws_push es n l))

-- an entry with a new key goes last
pub entered_last : (es : List Entry) (n : ℕ) (l : Law) → list_any (nat_eq n) (map key_of es) ≡ false → insert_entry nat_eq es n l ≡ es ++ (n, l) ∷ []
entered_last [] n l new = refl
entered_last (e ∷ es) n l new = by (nat_eq n e.0) refl new (entered_last es n l)
  where
    by : (b : Bool) → nat_eq n e.0 ≡ b → (b || list_any (nat_eq n) (map key_of es)) ≡ false → (list_any (nat_eq n) (map key_of es) ≡ false → insert_entry nat_eq es n l ≡ es ++ (n, l) ∷ [])
        → insert_entry nat_eq (e ∷ es) n l ≡ e ∷ es ++ (n, l) ∷ []
    by true t none rest = absurd cc
    by false t none rest = let last = rest none in rw t (ap (λ xs. e ∷ xs) last)

-- a key's place is that of the law with this name
pub place_by_key : (es : List Entry) (t : Laws) (n : ℕ) → map key_of es ≡ map name_in (map law_in es) → record { laws = map law_in es } ≡ t →
    position (nat_eq n) (map key_of es) ≡ position (nat_eq n) (map name_in t.laws)
place_by_key es t n same is = ap (position (nat_eq n)) same ∙ ap (λ (u : Laws). position (nat_eq n) (map name_in u.laws)) is
