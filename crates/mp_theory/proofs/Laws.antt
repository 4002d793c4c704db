-- The laws of what is looked up in theories, one term for each.
use Rattle.std.proofs.Common.{◌≡◌, ◌≤◌, ◌<◌, ℕ, List, [], ◌∷◌, ◌++◌, map, length, nat_eq, true, false, Bool, Option, Some, None, refl, sym, ap, ◌∙◌, ◌||◌, subst, arith}
use Rattle.std.specs.Prelude.{slice_get, is_none, is_some, option_and_then}
use Rattle.std.specs.List.{list_any, IsDistinct}
use Rattle.std.proofs.lemmas.Bool.Decides.{nat_tests}
use Rattle.std.proofs.lemmas.List.{length-append}
use Rattle.std.proofs.lemmas.List.Folds.{list_any-append}
use Rattle.mp_logic.specs.declared.sym.Sym.{Sym}
use Rattle.mp_logic.specs.Lists.{greatest}
use Rattle.mp_theory.specs.declared.rewrite.Rewrite.{Rewrite}
use Rattle.mp_theory.specs.declared.rule.Rule.{Rule}
use Rattle.mp_theory.specs.declared.law.Law.{Law}
use Rattle.mp_theory.specs.declared.law.Law.TheVariants as law
use Rattle.mp_theory.specs.Tables.{Laws, kind_at, place_named, rule_in, rule_at, rule_of, rewrite_in, rewrite_at, rewrite_of, name_in, is_named, IsTheory}
use Rattle.mp_theory.specs.Laws.{RulesOfTheories, PlacesOfNames, NamesOfPlaces, AddedRulesStand, RewritesOfTheories, PlacesOfRewrites, NamesOfRewrites, AddedRewritesStand, TakenNames, TheoriesGrow, WidthIsEnough}
use Rattle.mp_theory.proofs.LookUps.{map_push, get_last, get_before, placed, kind_placed, law_at, theory_push, width_at}

rule_is : (o : Option Law) (rule : Rule) → option_and_then rule_in o ≡ Some rule → o ≡ Some (law.Rule rule)
rule_is None rule e = absurd cc
rule_is (Some (law.Rule r)) rule e = let same : r ≡ rule = cc in ap (λ x. Some (law.Rule x)) same
rule_is (Some (law.Rewrite r)) rule e = absurd cc

rewrite_is : (o : Option Law) (rewrite : Rewrite) → option_and_then rewrite_in o ≡ Some rewrite → o ≡ Some (law.Rewrite rewrite)
rewrite_is None rewrite e = absurd cc
rewrite_is (Some (law.Rule r)) rewrite e = absurd cc
rewrite_is (Some (law.Rewrite r)) rewrite e = let same : r ≡ rewrite = cc in ap (λ x. Some (law.Rewrite x)) same

same_sym : (a : Sym) (n : ℕ) → nat_eq a.0 n ≡ true → record { 0 = n } ≡ a
same_sym a n e = let k : n ≡ a.0 = grind (arith, nat_tests, e) in ap (λ m. record { 0 = m }) k

a_rule : (l : Law) → is_some (rule_in l) ≡ true → (r : Rule) × (l ≡ law.Rule r)
a_rule (law.Rule r) e = (r, refl)
a_rule (law.Rewrite r) e = absurd cc

a_rewrite : (l : Law) → is_some (rewrite_in l) ≡ true → (r : Rewrite) × (l ≡ law.Rewrite r)
a_rewrite (law.Rule r) e = absurd cc
a_rewrite (law.Rewrite r) e = (r, refl)

-- ## Rules

pub rules_of_theories : RulesOfTheories
rules_of_theories t place rule is e = law_at t.laws place (law.Rule rule) is.laws (rule_is (slice_get t.laws place) rule e)

pub places_of_names : PlacesOfNames
places_of_names t place rule is e =
    let found = kind_placed rule_in t.laws place (law.Rule rule) rule.name is.apart (rule_is (slice_get t.laws place) rule e) refl refl in
    (found, ap (option_and_then (rule_at t)) found ∙ e)

pub names_of_places : NamesOfPlaces
names_of_places t name place e =
    let p = placed rule_in t.laws name place e in
    let r = a_rule p.0 p.2 in
    let at : rule_at t place ≡ Some r.0 = ap (option_and_then rule_in) (p.1 ∙ ap (λ x. Some x) r.1) in
    let named : nat_eq name.0 (name_in (law.Rule r.0)) ≡ true = ap (λ (l : Law). nat_eq name.0 (name_in l)) (sym r.1) ∙ p.3 in
    (r.0, at, ap (option_and_then (rule_at t)) e ∙ at, same_sym name r.0.name.0 named)

-- ## Rewrites

pub rewrites_of_theories : RewritesOfTheories
rewrites_of_theories t place rewrite is e = law_at t.laws place (law.Rewrite rewrite) is.laws (rewrite_is (slice_get t.laws place) rewrite e)

pub places_of_rewrites : PlacesOfRewrites
places_of_rewrites t place rewrite is e =
    let found = kind_placed rewrite_in t.laws place (law.Rewrite rewrite) rewrite.name is.apart (rewrite_is (slice_get t.laws place) rewrite e) refl refl in
    (found, ap (option_and_then (rewrite_at t)) found ∙ e)

pub names_of_rewrites : NamesOfRewrites
names_of_rewrites t name place e =
    let p = placed rewrite_in t.laws name place e in
    let r = a_rewrite p.0 p.2 in
    let at : rewrite_at t place ≡ Some r.0 = ap (option_and_then rewrite_in) (p.1 ∙ ap (λ x. Some x) r.1) in
    let named : nat_eq name.0 (name_in (law.Rewrite r.0)) ≡ true = ap (λ (l : Law). nat_eq name.0 (name_in l)) (sym r.1) ∙ p.3 in
    (r.0, at, ap (option_and_then (rewrite_at t)) e ∙ at, same_sym name r.0.name.0 named)

-- ## Laws of any kind

module _ (t : Laws) (l : Law) where
  abbrev more : Laws
  more = record { laws = t.laws ++ l ∷ [] }

  stand : (place : ℕ) → place < length t.laws → (rule_at more place ≡ rule_at t place) × (rewrite_at more place ≡ rewrite_at t place)
  stand place lt =
      let same = get_before t.laws (l ∷ []) place lt in
      (ap (option_and_then rule_in) same, ap (option_and_then rewrite_in) same)

  taken : (other : Sym) → list_any (nat_eq other.0) (map name_in more.laws) ≡ (list_any (nat_eq other.0) (map name_in t.laws) || nat_eq other.0 (name_in l))
  taken other =
      ap (list_any (nat_eq other.0)) (map_push name_in t.laws l)
      ∙ list_any-append (nat_eq other.0) (map name_in t.laws) (name_in l ∷ [])
      ∙ ap (λ b. list_any (nat_eq other.0) (map name_in t.laws) || b) (or_false (nat_eq other.0 (name_in l)))
    where
      or_false : (b : Bool) → (b || false) ≡ b
      or_false true = refl
      or_false false = refl

pub added_rules_stand : AddedRulesStand
added_rules_stand t name premises concl =
    let l = law.Rule (rule_of name premises concl) in
    (let e = length-append t.laws (l ∷ []) in omega (arith, e), ap (option_and_then rule_in) (get_last t.laws l), λ place lt. stand t l place lt)

pub added_rewrites_stand : AddedRewritesStand
added_rewrites_stand t name conds redex contractum =
    let l = law.Rewrite (rewrite_of name conds redex contractum) in
    (let e = length-append t.laws (l ∷ []) in omega (arith, e), ap (option_and_then rewrite_in) (get_last t.laws l), λ place lt. stand t l place lt)

pub taken_names : TakenNames
taken_names = (
  λ name. refl,
  λ t name premises concl other. taken t (law.Rule (rule_of name premises concl)) other,
  λ t name conds redex contractum other. taken t (law.Rewrite (rewrite_of name conds redex contractum)) other,
)

pub theories_grow : TheoriesGrow
unfolding IsDistinct
theories_grow = (
  record { laws = tt; apart = tt },
  λ t name premises concl is new faultless.
      theory_push t.laws (law.Rule (rule_of name premises concl)) is (record { faultless = ap is_none faultless; needs = refl }) new,
  λ t name conds redex contractum is new faultless. theory_push t.laws (law.Rewrite (rewrite_of name conds redex contractum)) is faultless new,
)

pub width_is_enough : WidthIsEnough
width_is_enough t place = (
  λ rule e. width_at t.laws place (law.Rule rule) (rule_is (slice_get t.laws place) rule e),
  λ rewrite e. let h = width_at t.laws place (law.Rewrite rewrite) (rewrite_is (slice_get t.laws place) rewrite e) in omega (arith, h),
)
