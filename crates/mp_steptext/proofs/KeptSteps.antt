-- What a step without static faults keeps.
use Rattle.std.proofs.Common.{◌≡◌, ℕ, zero, suc, ◌+◌, ◌<◌, ◌++◌, List, [], ◌∷◌, map, length, get_or, Bool, true, false, not, nat_eq, Option, None, Some, refl, ap, sym, subst, ◌∙◌, true≢false, arith}
use Rattle.std.specs.Prelude.{if◌then◌else◌, is_none, is_some, option_and_then, unwrap_or}
use Rattle.std.specs.List.{flat_map}
use Rattle.std.proofs.lemmas.Bool.Decides.{nat_tests}
use Rattle.mp_logic.specs.declared.sym.Sym.{Sym}
use Rattle.mp_logic.specs.Lists.{same_bool}
use Rattle.mp_schema.specs.Conditions.{has_two_contexts}
use Rattle.mp_term.specs.declared.limits.TheConstants.{MOST_HYPOTHESES}
use Rattle.mp_theory.specs.declared.rule.Need.{Need}
use Rattle.mp_theory.specs.declared.rule.Rule.{Rule}
use Rattle.mp_theory.specs.Tables.{Laws, place_of_rewrite, place_of_rule, rule_at, rule_named}
use Rattle.mp_words.specs.declared.raw.RawNumber.{RawNumber}
use Rattle.mp_words.specs.declared.fail.TextErr.{TextErr}
use Rattle.mp_words.specs.declared.fail.TextWhy.TheVariants as why
use Rattle.mp_words.specs.Faults.{fault_if}
use Rattle.mp_words.specs.Ranges.{written_number_faults}
use Rattle.mp_words.specs.Seconds.{second_faults}
use Rattle.mp_words.proofs.NoFaults.{nil_parts, no_fault}
use Rattle.mp_steptext.specs.declared.raw.RawGiven.{RawGiven}
use Rattle.mp_steptext.specs.declared.raw.RawRewriteStep.{RawRewriteStep}
use Rattle.mp_steptext.specs.declared.raw.RawRuleStep.{RawRuleStep}
use Rattle.mp_steptext.specs.declared.body.StepValue.TheVariants as value
use Rattle.mp_steptext.specs.Statics.{address_faults, all_given_faults, body_faults, given_faults, given_of, hypothesis_faults, missing_faults, named_rule_faults, need_faults, need_of, place_faults, rewrite_step_faults, rule_step_faults}
use Rattle.mp_steptext.specs.Values.{first_hypotheses, given_for, needs_at, rule_step_value}

-- a test that wasn't faulty passes
pub no_failure : (b : Bool) → not b ≡ false → b ≡ true
no_failure true h = refl
no_failure false h = absurd cc

pub some_of : {X : Type 0} (o : Option X) → is_some o ≡ true → (x : X) × (o ≡ Some x)
some_of None h = absurd cc
some_of (Some x) h = (x, refl)

-- there is none where a test says so
pub none_by : {X : Type 0} (o : Option X) (none : Bool) → is_some o ≡ not none → none ≡ is_none o
none_by None true h = refl
none_by None false h = absurd (true≢false (sym h))
none_by (Some x) true h = absurd (true≢false h)
none_by (Some x) false h = refl

-- the item of a list at a place, which stands there whatever stands for none
pub item_again : {X : Type 0} (xs : List X) (i : ℕ) (d : X) → i < length xs → get_or xs i d ≡ get_or xs i (get_or xs i d)
item_again [] i d lt = absurd (omega (arith, lt))
item_again (x ∷ xs) zero d lt = refl
item_again (x ∷ xs) (suc i) d lt = item_again xs i d (omega (arith, lt))

-- where no item has anything, this one has nothing
pub nil_at : {X A : Type 0} (f : X → List A) (xs : List X) (i : ℕ) (x : X) → i < length xs → x ≡ get_or xs i x → flat_map f xs ≡ [] → f x ≡ []
nil_at f [] i x lt is h = absurd (omega (arith, lt))
nil_at f (y ∷ ys) zero x lt is h = ap f is ∙ (nil_parts (f y) (flat_map f ys) h).0
nil_at f (y ∷ ys) (suc i) x lt is h = nil_at f ys i x (omega (arith, lt)) is (nil_parts (f y) (flat_map f ys) h).1

module _ {R : Type 0} (arity : R → ℕ) (faults : ℕ → R → List TextErr) where
  -- what is found has no fault by itself where none has
  pub given_body : (gs : List (RawGiven R)) (name : Sym) (g : RawGiven R) → flat_map (body_faults arity faults) gs ≡ [] → given_of gs name ≡ Some g → faults g.at g.body ≡ []
  given_body [] name g h e = absurd cc
  given_body (x ∷ gs) name g h e =
      let both = nil_parts (faults x.at x.body) (flat_map (body_faults arity faults) gs) h in by (nat_eq x.name.name.0 name.0) both.0 (given_body gs name g both.1) e
    where
      by : (b : Bool) → faults x.at x.body ≡ [] → (given_of gs name ≡ Some g → faults g.at g.body ≡ []) → (if b then Some x else given_of gs name) ≡ Some g → faults g.at g.body ≡ []
      by true t ih is = let q : x ≡ g = cc in subst (λ (y : RawGiven R). faults y.at y.body ≡ []) q t
      by false t ih is = ih is

  -- it has the name, and is what its need asks for
  abbrev pub IsFound : List Need → Sym → RawGiven R → Type 0
  IsFound needs name g = (g.name.name.0 ≡ name.0) × (need_faults arity faults (need_of needs g.name.name) g ≡ [])

  -- so is each one that is found, where none has a fault
  found : (needs : List Need) (gs : List (RawGiven R)) (name : Sym) (g : RawGiven R) → flat_map (given_faults arity faults needs) gs ≡ [] → given_of gs name ≡ Some g → IsFound needs name g
  found needs [] name g h e = absurd cc
  found needs (x ∷ gs) name g h e =
      let both = nil_parts (given_faults arity faults needs x) (flat_map (given_faults arity faults needs) gs) h in
      by (nat_eq x.name.name.0 name.0) refl both.0 (found needs gs name g both.1) e
    where
      by : (b : Bool) → nat_eq x.name.name.0 name.0 ≡ b → need_faults arity faults (need_of needs x.name.name) x ≡ [] → (given_of gs name ≡ Some g → IsFound needs name g) → (if b then Some x else given_of gs name) ≡ Some g → IsFound needs name g
      by true same n ih is = let q : x ≡ g = cc in let here : IsFound needs name x = (grind (arith, nat_tests, same), n) in subst (IsFound needs name) q here
      by false same n ih is = ih is

  arity_by : (need : Need) (g : RawGiven R) (o : Option Need) → o ≡ Some need → need_faults arity faults o g ≡ [] → need.arity ≡ arity g.body
  arity_by need g None e h = absurd cc
  arity_by need g (Some n) e h =
      let same = no_failure (nat_eq n.arity (arity g.body)) (no_fault (not (nat_eq n.arity (arity g.body))) g.name.at why.BadArity h) in
      let q : n ≡ need = cc in
      ap (λ (m : Need). m.arity) (sym q) ∙ grind (arith, nat_tests, same)

  -- it has as many binders as its need has arguments
  pub arity_is : (needs : List Need) (gs : List (RawGiven R)) (need : Need) (g : RawGiven R) → all_given_faults arity faults needs gs ≡ [] → need_of needs need.name ≡ Some need → given_of gs need.name ≡ Some g → need.arity ≡ arity g.body
  arity_is needs gs need g h own e =
      let f = found needs gs need.name g (nil_parts (flat_map (given_faults arity faults needs) gs) (second_faults (λ (x : RawGiven R). x.name) why.TwiceWith gs) h).0 e in
      arity_by need g (need_of needs g.name.name) (ap (λ (n : ℕ). need_of needs (record { 0 = n })) f.0 ∙ own) f.1

  pub placed : (rule : Rule) (s : RawRuleStep R) (place : Option RawNumber) → place_faults rule s place ≡ [] → same_bool (is_some (first_hypotheses place)) (has_two_contexts rule.concl) ≡ true
  placed rule s None h = by (has_two_contexts rule.concl) (no_fault (has_two_contexts rule.concl) s.rule.at why.AtNeeded h)
    where
      by : (b : Bool) → b ≡ false → same_bool false b ≡ true
      by true e = absurd cc
      by false e = refl
  placed rule s (Some n) h = no_failure (has_two_contexts rule.concl) (no_fault (not (has_two_contexts rule.concl)) n.at why.AtRefused h)

  -- what a step without faults by this rule keeps
  pub record KeepsRule (rule : Rule) (s : RawRuleStep R) : Type 0 where
    pub number : written_number_faults 1 (MOST_HYPOTHESES + 1) s.place ≡ []
    pub bodies : flat_map (body_faults arity faults) s.given ≡ []
    pub place : place_faults rule s s.place ≡ []
    pub there : flat_map (missing_faults s) rule.needs ≡ []
    pub given : all_given_faults arity faults rule.needs s.given ≡ []

  module _ (t : Laws) (s : RawRuleStep R) where
    by_rule : rule_step_faults arity faults t s ≡ [] → (written_number_faults 1 (MOST_HYPOTHESES + 1) s.place ++ flat_map (body_faults arity faults) s.given ≡ []) × (named_rule_faults arity faults (rule_named t s.rule.name) s ≡ [])
    by_rule h = nil_parts (written_number_faults 1 (MOST_HYPOTHESES + 1) s.place ++ flat_map (body_faults arity faults) s.given) (named_rule_faults arity faults (rule_named t s.rule.name) s) h

    -- its rule is there
    pub no_rule : rule_step_faults arity faults t s ≡ [] → rule_named t s.rule.name ≡ None → ⊥
    no_rule h e =
        let none : named_rule_faults arity faults None s ≡ [] = ap (λ o. named_rule_faults arity faults o s) (sym e) ∙ (by_rule h).1 in
        cc

    module _ (at : ℕ) (rule : Rule) (found_at : place_of_rule t s.rule.name ≡ Some at) (is : rule_at t at ≡ Some rule) where
      named : rule_named t s.rule.name ≡ Some rule
      named = ap (option_and_then (rule_at t)) found_at ∙ is

      pub step_keeps : rule_step_faults arity faults t s ≡ [] → KeepsRule rule s
      step_keeps h =
          let parts = by_rule h in
          let alone = nil_parts (written_number_faults 1 (MOST_HYPOTHESES + 1) s.place) (flat_map (body_faults arity faults) s.given) parts.0 in
          let missing = flat_map (missing_faults s) rule.needs in
          let given = nil_parts (place_faults rule s s.place ++ missing) (all_given_faults arity faults rule.needs s.given) (ap (λ o. named_rule_faults arity faults o s) (sym named) ∙ parts.1) in
          let first = nil_parts (place_faults rule s s.place) missing given.0 in
          record { number = alone.0; bodies = alone.1; place = first.0; there = first.1; given = given.1 }

      -- the value of the step, by the rule at its place
      pub value_made : {G : Type 0} (body : Need → Option R → G) (given : List G) → given ≡ map (given_for body s.given) rule.needs
          → value.Rule at (first_hypotheses s.place) given ≡ rule_step_value body t s
      value_made body given e =
          let needs : rule.needs ≡ needs_at (rule_named t s.rule.name) = ap needs_at (sym named) in
          let place : at ≡ unwrap_or (place_of_rule t s.rule.name) 0 = ap (λ o. unwrap_or o 0) (sym found_at) in
          (λ i. value.Rule (place i) (first_hypotheses s.place) ((e ∙ ap (map (given_for body s.given)) needs) i))

-- what a step by a rewrite without faults keeps
pub record KeepsRewrite (t : Laws) (s : RawRewriteStep) : Type 0 where
  pub place : hypothesis_faults s.place ≡ []
  pub address : address_faults s.address ≡ []
  pub named : fault_if (is_none (place_of_rewrite t s.rewrite.name)) s.rewrite.at why.UnknownName ≡ []

pub rewrite_keeps : (t : Laws) (s : RawRewriteStep) → rewrite_step_faults t s ≡ [] → KeepsRewrite t s
rewrite_keeps t s h =
    let place = hypothesis_faults s.place in
    let address = address_faults s.address in
    let named = fault_if (is_none (place_of_rewrite t s.rewrite.name)) s.rewrite.at why.UnknownName in
    let numbers = nil_parts (place ++ address) named h in
    let both = nil_parts place address numbers.0 in
    record { place = both.0; address = both.1; named = numbers.1 }
