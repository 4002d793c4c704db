-- The needs of a rule have different names, so each one is the first of its name.
use Rattle.std.proofs.Common.{◌≡◌, ◌++◌, List, [], ◌∷◌, map, Bool, true, false, nat_eq, None, Some, refl, ap, sym, subst, ◌∙◌, arith}
use Rattle.std.specs.Prelude.{◌||◌, if◌then◌else◌}
use Rattle.std.proofs.lemmas.Bool.Decides.{nat_tests}
use Rattle.std.proofs.lemmas.List.{map-append}
use Rattle.mp_logic.specs.declared.sym.Sym.{Sym}
use Rattle.mp_names.specs.Sets.{is_met, with_met}
use Rattle.mp_names.proofs.Meeting.{eq_comm}
use Rattle.mp_schema.specs.declared.schema.Schema.{Schema}
use Rattle.mp_theory.specs.declared.rule.Need.{Need}
use Rattle.mp_theory.specs.declared.rule.Rule.{Rule}
use Rattle.mp_theory.specs.Needs.{all_uses, first_uses, is_needed, joined_by, needs_of, schema_uses}
use Rattle.mp_theory.specs.Tables.{IsRule}
use Rattle.mp_steptext.specs.Names.{all_met, AreNew, need_numbers}
use Rattle.mp_steptext.specs.Statics.{need_of}
use Rattle.mp_steptext.proofs.MetNames.{all_met_last, with_new}

-- each of these is found in the whole list by its name
abbrev pub AreFound : List Need → List Need → Type 0
AreFound whole [] = Unit {0}
AreFound whole (n ∷ ns) = (need_of whole n.name ≡ Some n) × AreFound whole ns

-- what is found in a list is found in a longer one
found_before : (xs ys : List Need) (name : Sym) (n : Need) → need_of xs name ≡ Some n → need_of (xs ++ ys) name ≡ Some n
found_before [] ys name n h = absurd cc
found_before (x ∷ xs) ys name n h = by (nat_eq x.name.0 name.0) (found_before xs ys name n) h
  where
    by : (b : Bool) → (need_of xs name ≡ Some n → need_of (xs ++ ys) name ≡ Some n) → (if b then Some x else need_of xs name) ≡ Some n → (if b then Some x else need_of (xs ++ ys) name) ≡ Some n
    by true ih e = e
    by false ih e = ih e

same_name : (n : Need) → nat_eq n.name.0 n.name.0 ≡ true
same_name n = grind (arith, nat_tests)

-- a need with a new name is found behind the others
found_last : (xs : List Need) (u : Need) → is_needed xs u.name ≡ false → need_of (xs ++ u ∷ []) u.name ≡ Some u
found_last [] u h = ap (λ b. if b then Some u else None) (same_name u)
found_last (x ∷ xs) u h = by (nat_eq x.name.0 u.name.0) (found_last xs u) h
  where
    by : (b : Bool) → (is_needed xs u.name ≡ false → need_of (xs ++ u ∷ []) u.name ≡ Some u) → (b || is_needed xs u.name) ≡ false → (if b then Some x else need_of (xs ++ u ∷ []) u.name) ≡ Some u
    by true ih e = absurd cc
    by false ih e = ih e

found_with : (whole : List Need) (u : Need) (ns : List Need) → AreFound whole ns → need_of (whole ++ u ∷ []) u.name ≡ Some u → AreFound (whole ++ u ∷ []) (ns ++ u ∷ [])
found_with whole u [] h last = (last, tt)
found_with whole u (n ∷ ns) h last = (found_before whole (u ∷ []) n.name n h.0, found_with whole u ns h.1 last)

first_found : (skip held us : List Need) → AreFound held held → AreFound (first_uses skip held us) (first_uses skip held us)
first_found skip held [] h = h
first_found skip held (u ∷ us) h = first_found skip (joined_by skip held u) us (by (is_needed skip u.name) (is_needed held u.name) refl)
  where
    by : (a b : Bool) → is_needed held u.name ≡ b → AreFound (if a || b then held else held ++ u ∷ []) (if a || b then held else held ++ u ∷ [])
    by true b e = h
    by false true e = h
    by false false e = found_with held u held h (found_last held u e)

pub needs_found : (premises : List Schema) (concl : Schema) → AreFound (needs_of premises concl) (needs_of premises concl)
needs_found premises concl = first_found (first_uses [] [] (schema_uses concl)) [] (all_uses (map schema_uses premises)) tt

-- ## Different names

needed_is_met : (needs : List Need) (name : Sym) → is_met (need_numbers needs) name.0 ≡ is_needed needs name
needed_is_met [] name = refl
needed_is_met (n ∷ needs) name = (λ i. eq_comm name.0 n.name.0 i || needed_is_met needs name i)

new_with : (held : List Need) (u : Need) → AreNew (need_numbers held) → is_needed held u.name ≡ false → AreNew (need_numbers (held ++ u ∷ []))
new_with held u new e =
    let longer = map-append (λ n. n.name.0) held (u ∷ []) in
    ap (all_met []) longer ∙ all_met_last [] (need_numbers held) u.name.0 ∙ ap (λ ns. with_met ns u.name.0) new ∙ with_new (need_numbers held) u.name.0 (needed_is_met held u.name ∙ e) ∙ sym longer

first_new : (skip held us : List Need) → AreNew (need_numbers held) → AreNew (need_numbers (first_uses skip held us))
first_new skip held [] new = new
first_new skip held (u ∷ us) new = first_new skip (joined_by skip held u) us (by (is_needed skip u.name) (is_needed held u.name) refl)
  where
    by : (a b : Bool) → is_needed held u.name ≡ b → AreNew (need_numbers (if a || b then held else held ++ u ∷ []))
    by true b e = new
    by false true e = new
    by false false e = new_with held u new e

pub needs_new : (rule : Rule) → IsRule rule → AreNew (need_numbers rule.needs)
needs_new rule whole = subst (λ ns. AreNew (need_numbers ns)) (sym whole.needs) (first_new (first_uses [] [] (schema_uses rule.concl)) [] (all_uses (map schema_uses rule.premises)) refl)
