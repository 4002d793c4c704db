-- What is gathered from a list, item by item.
use Rattle.std.proofs.Common.{◌≡◌, ℕ, List, [], ◌∷◌, ◌++◌, map, Bool, true, false, ◌||◌, if◌then◌else◌, nat_eq, refl, sym, ap, ◌∙◌, append_assoc, append-nil, rules}
use Rattle.std.specs.Prelude.{Result, Ok, Err, OnOk}
use Rattle.std.proofs.lemmas.Grind.{common_steps}
use Rattle.mp_logic.specs.declared.sym.Sym.{Sym}
use Rattle.mp_names.specs.Sets.{is_met, with_met}
use Rattle.mp_names.proofs.Meeting.{eq_comm, met_with}
use Rattle.mp_schema.specs.declared.pattern.Pattern.{the_lemmas}
use Rattle.mp_schema.specs.declared.pattern.PBound.{PBound}
use Rattle.mp_schema.specs.declared.schema.Schema.{Schema}
use Rattle.mp_theory.specs.declared.rule.Need.{Need}
use Rattle.mp_theory.specs.Fresh.{fresh_uses, with_all}
use Rattle.mp_theory.specs.Needs.{first_uses, is_needed, all_uses, schema_uses, needs_of, uses_of, uses_bound}

-- to gather what is left gives the same as to gather all from the start
pub record IsOnTheWay (start : List ℕ) (first all : List Need) (met : List ℕ) (held left : List Need) : Type 0 where
  pub held_all : held ++ fresh_uses met left ≡ first ++ fresh_uses start all
  pub met_all : with_all met left ≡ with_all start all

pub fresh-append : (met : List ℕ) (us vs : List Need) → fresh_uses met (us ++ vs) ≡ fresh_uses met us ++ fresh_uses (with_all met us) vs
fresh-append met [] vs = refl
fresh-append met (u ∷ us) vs = by (is_met met u.name.0) refl (fresh-append met us vs) (fresh-append (with_met met u.name.0) us vs)
  where
    by : (b : Bool) → is_met met u.name.0 ≡ b → fresh_uses met (us ++ vs) ≡ fresh_uses met us ++ fresh_uses (with_all met us) vs →
        fresh_uses (with_met met u.name.0) (us ++ vs) ≡ fresh_uses (with_met met u.name.0) us ++ fresh_uses (with_all (with_met met u.name.0) us) vs →
        fresh_uses met (u ∷ us ++ vs) ≡ fresh_uses met (u ∷ us) ++ fresh_uses (with_all met (u ∷ us)) vs
    by true e known new = rw e known
    by false e known new = let new' = rw e at new in rw e (ap (λ ws. u ∷ ws) new')

pub with_all-append : (met : List ℕ) (us vs : List Need) → with_all met (us ++ vs) ≡ with_all (with_all met us) vs
with_all-append met [] vs = refl
with_all-append met (u ∷ us) vs = with_all-append (with_met met u.name.0) us vs

pub uses_bound-is : (b : PBound) → uses_bound b ≡ uses_of b.body
uses_bound-is b = search (rules, the_lemmas)

-- what a walk over the uses of a text needs
pub ruleset gathering = (common_steps, fresh-append, with_all-append, append_assoc, uses_bound-is)

-- what follows from a fact of a success
pub then_ok : {X E : Type 0} (r : Result X E) (P Q : Type 0) → (P → Q) → OnOk r P → OnOk r Q
then_ok (Ok x) P Q h p = h p
then_ok (Err e) P Q h p = tt

-- what is gathered of a use and of those in its arguments
pub use_held : (met mid_met : List ℕ) (held mid last : List Need) (u : Need) (rest all : List Need) → all ≡ u ∷ rest → mid ≡ held ++ fresh_uses met (u ∷ []) →
    mid_met ≡ with_met met u.name.0 → last ≡ mid ++ fresh_uses mid_met rest → last ≡ held ++ fresh_uses met all
use_held met mid_met held mid last u rest all is here known there =
    there
    ∙ ap (λ hs. hs ++ fresh_uses mid_met rest) here
    ∙ append_assoc held (fresh_uses met (u ∷ [])) (fresh_uses mid_met rest)
    ∙ ap (λ ns. held ++ (fresh_uses met (u ∷ []) ++ fresh_uses ns rest)) known
    ∙ ap (λ us. held ++ us) (sym (fresh-append met (u ∷ []) rest))
    ∙ ap (λ us. held ++ fresh_uses met us) (sym is)

-- ## Fresh uses are needs

-- the names that were met are those to be skipped and those that are held
abbrev Knows : List ℕ → List Need → List Need → Type 0
Knows met skip held = (name : Sym) → is_met met name.0 ≡ (is_needed skip name || is_needed held name)

or_false : (b : Bool) → (b || false) ≡ b
or_false true = refl
or_false false = refl

or_assoc : (a b c : Bool) → ((a || b) || c) ≡ (a || (b || c))
or_assoc true b c = refl
or_assoc false b c = refl

needed-push : (held : List Need) (u : Need) (name : Sym) → is_needed (held ++ u ∷ []) name ≡ (is_needed held name || nat_eq u.name.0 name.0)
needed-push [] u name = or_false (nat_eq u.name.0 name.0)
needed-push (x ∷ held) u name =
    ap (λ b. nat_eq x.name.0 name.0 || b) (needed-push held u name) ∙ sym (or_assoc (nat_eq x.name.0 name.0) (is_needed held name) (nat_eq u.name.0 name.0))

module _ (skip : List Need) where
  knows-new : (met : List ℕ) (held : List Need) (u : Need) → Knows met skip held → Knows (with_met met u.name.0) skip (held ++ u ∷ [])
  knows-new met held u k name =
      met_with met u.name.0 name.0
      ∙ ap (λ b. b || nat_eq name.0 u.name.0) (k name)
      ∙ or_assoc (is_needed skip name) (is_needed held name) (nat_eq name.0 u.name.0)
      ∙ ap (λ b. is_needed skip name || (is_needed held name || b)) (eq_comm name.0 u.name.0)
      ∙ ap (λ b. is_needed skip name || b) (sym (needed-push held u name))

  abbrev Fresh : List ℕ → List Need → List Need → Type 0
  Fresh met held us = (first_uses skip held us ≡ held ++ fresh_uses met us) × Knows (with_all met us) skip (first_uses skip held us)

  -- where the names are known, the first uses are those that are held and the fresh ones, and then all their names are known
  first_fresh : (us : List Need) (met : List ℕ) (held : List Need) → Knows met skip held → Fresh met held us
  first_fresh [] met held k = (sym (append-nil held), k)
  first_fresh (u ∷ us) met held k = by (is_met met u.name.0) refl (first_fresh us met held k) (first_fresh us (with_met met u.name.0) (held ++ u ∷ []) (knows-new met held u k))
    where
      by : (b : Bool) → is_met met u.name.0 ≡ b → Fresh met held us → Fresh (with_met met u.name.0) (held ++ u ∷ []) us → Fresh met held (u ∷ us)
      by true e known new =
          let needed : (is_needed skip u.name || is_needed held u.name) ≡ true = sym (k u.name) ∙ e in
          rw (e, needed) known
      by false e known new =
          let needed : (is_needed skip u.name || is_needed held u.name) ≡ false = sym (k u.name) ∙ e in
          let new' = rw e at new in
          rw (e, needed) (new'.0 ∙ append_assoc held (u ∷ []) _, new'.1)

-- so what is gathered from the premises after the conclusion is what they need
pub needs_fresh : (premises : List Schema) (concl : Schema) →
    fresh_uses (with_all [] (schema_uses concl)) (all_uses (map schema_uses premises)) ≡ needs_of premises concl
needs_fresh premises concl =
    let bound = first_fresh [] (schema_uses concl) [] [] (λ name. refl) in
    let names = first_uses [] [] (schema_uses concl) in
    sym (first_fresh names (all_uses (map schema_uses premises)) (with_all [] (schema_uses concl)) [] (λ name. bound.1 name ∙ sym (or_false (is_needed names name)))).0
