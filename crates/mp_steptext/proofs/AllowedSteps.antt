-- A step without static faults, which gives terms, has a justification that the theory allows.
use Rattle.std.proofs.Common.{◌≡◌, ℕ, ◌+◌, ◌≤◌, List, [], ◌∷◌, map, length, true, nat_eq, nat_lt, nat_le, not, Option, None, Some, refl, ap, sym, subst, ◌∙◌, arith}
use Rattle.std.specs.Prelude.{is_none, is_some, option_and_then, unwrap_or, false}
use Rattle.std.specs.List.{flat_map}
use Rattle.std.proofs.lemmas.Bool.{and_from}
use Rattle.std.proofs.lemmas.Bool.Decides.{nat_tests}
use Rattle.std.proofs.lemmas.List.{length-map}
use Rattle.mp_logic.specs.declared.sym.Sym.{Sym}
use Rattle.mp_term.specs.Terms.{depth_of, in_scope_of}
use Rattle.mp_term.specs.Limits.{few_binders_of}
use Rattle.mp_term.specs.declared.term.Bound.{Bound}
use Rattle.mp_theory.specs.declared.rule.Need.{Need}
use Rattle.mp_theory.specs.declared.rule.Rule.{Rule}
use Rattle.mp_theory.specs.declared.just.Given.{Given}
use Rattle.mp_theory.specs.Allowed.{are_for, is_allowed, is_allowed_at, is_for}
use Rattle.mp_theory.specs.Tables.{Laws, IsRule, IsTheory, place_of_rewrite, place_of_rule, rewrite_at, rule_at}
use Rattle.mp_theory.proofs.Laws.{names_of_rewrites, rules_of_theories}
use Rattle.mp_words.specs.declared.raw.RawName.{RawName}
use Rattle.mp_words.specs.declared.fail.TextWhy.TheVariants as why
use Rattle.mp_words.specs.Faults.{fault_if}
use Rattle.mp_words.specs.declared.fail.TextErr.{TextErr}
use Rattle.mp_words.proofs.NoFaults.{nil_parts, no_fault}
use Rattle.mp_termtext.specs.declared.raw.RawBound.{RawBound}
use Rattle.mp_termtext.specs.Statics.{bound_faults_of, names_of, raw_size_of}
use Rattle.mp_termtext.specs.Values.{IsFaultlessBound, bound_value_of, value_of}
use Rattle.mp_termtext.proofs.RawLayers.{bound_value-is}
use Rattle.mp_steptext.specs.declared.raw.RawGiven.{RawGiven}
use Rattle.mp_steptext.specs.declared.raw.RawRuleStep.{RawRuleStep}
use Rattle.mp_steptext.specs.declared.raw.RawStep.{RawStep}
use Rattle.mp_steptext.specs.declared.raw.RawStep.TheVariants as raw
use Rattle.mp_steptext.specs.Statics.{all_given_faults, body_faults, given_of, missing_faults, need_of, rule_step_faults}
use Rattle.mp_steptext.specs.Terms.{given_term, just_by, just_of, term_arity, term_body, given_term_faults, term_step_faults}
use Rattle.mp_steptext.specs.Values.{body_in, first_hypotheses, given_for, rule_step_value}
use Rattle.mp_steptext.proofs.DistinctNeeds.{AreFound, needs_found}
use Rattle.mp_steptext.proofs.GoodTerms.{Fits, term_fits, body_faultless}
use Rattle.mp_steptext.proofs.KeptSteps.{arity_is, given_body, no_failure, no_rule, placed, rewrite_keeps, some_of, step_keeps, value_made}

-- ## Given terms

bound_faultless : (at : ℕ) (b : RawBound) → given_term_faults at b ≡ [] → bound_faults_of 200 b [] 1 ≡ []
bound_faultless at b h = (nil_parts (bound_faults_of 200 b [] 1) (fault_if (nat_lt 20000 (raw_size_of b.body)) at why.TooBig) h).0

-- a given term is built in the scope of 200 names
pub given_faultless : (at : ℕ) (b : RawBound) (env : List Sym) → env ≡ [] → given_term_faults at b ≡ [] → IsFaultlessBound 200 b env
given_faultless at b env e h =
    let one = ap length e in
    (1, ap (λ ns. bound_faults_of 200 b ns 1) e ∙ bound_faultless at b h, omega (arith, one))

-- what a term gives for a need
pub given_made : (need : Need) (raw : RawBound) (env : List Sym) (b : Bound) → env ≡ [] → b ≡ bound_value_of 200 raw env
    → (let given : Given = record { name = need.name; arity = need.arity; body = b.body } in given ≡ given_term need (Some raw))
given_made need raw env b none is =
    let body : b.body ≡ term_body (Some raw) = ap (λ (x : Bound). x.body) (is ∙ ap (bound_value_of 200 raw) none ∙ bound_value-is 200 raw []) in
    (λ i. record { name = need.name; arity = need.arity; body = body i })

body_fits : (at : ℕ) (b : RawBound) → given_term_faults at b ≡ [] → Fits (value_of 200 b.body (names_of b.binders)) (200 + length (names_of b.binders)) 1 (raw_size_of b.body)
body_fits at b h = term_fits 200 b.body (names_of b.binders) 1 (body_faultless 200 b [] 1 (bound_faultless at b h))

abbrev Terms : Type 0
Terms = List (RawGiven RawBound)

module _ (gs : Terms) (needs : List Need) (terms : flat_map (body_faults term_arity given_term_faults) gs ≡ []) (given : all_given_faults term_arity given_term_faults needs gs ≡ []) where
  is_given : (need : Need) (g : RawGiven RawBound) → need_of needs need.name ≡ Some need → given_of gs need.name ≡ Some g → is_for need (given_for given_term gs need) ≡ true
  is_given need g own e =
      let b = g.body in
      let arity = arity_is term_arity given_term_faults needs gs need g given own e in
      let fits = body_fits g.at b (given_body term_arity given_term_faults gs need.name g terms e) in
      let depth = fits.depth in
      let names = length-map b.binders (λ (n : RawName). n.name) in
      let body : term_body (body_in (given_of gs need.name)) ≡ value_of 200 b.body (names_of b.binders) = ap (λ o. term_body (body_in o)) e in
      let scope : 200 + need.arity ≡ 200 + length (names_of b.binders) = omega (arith, arity, names) in
      let named : nat_eq need.name.0 need.name.0 ≡ true = grind (arith, nat_tests) in
      let as_many : nat_eq need.arity need.arity ≡ true = grind (arith, nat_tests) in
      let low : depth_of (value_of 200 b.body (names_of b.binders)) ≤ 200 = omega (arith, depth) in
      let shallow : nat_le (depth_of (value_of 200 b.body (names_of b.binders))) 200 ≡ true = grind (arith, nat_tests, low) in
      let scoped : in_scope_of (term_body (body_in (given_of gs need.name))) (200 + need.arity) ≡ true = (λ i. in_scope_of (body i) (scope i)) ∙ fits.scoped in
      and_from _ _ (and_from _ _ (and_from _ _ (and_from _ _ named as_many) scoped) (ap (λ t. nat_le (depth_of t) 200) body ∙ shallow)) (ap few_binders_of body ∙ fits.few)

  are_given : (s : RawRuleStep RawBound) → s.given ≡ gs → (ns : List Need) → AreFound needs ns → flat_map (missing_faults s) ns ≡ [] → are_for ns (map (given_for given_term gs) ns) ≡ true
  are_given s same [] own h = refl
  are_given s same (n ∷ ns) own h =
      let both = nil_parts (missing_faults s n) (flat_map (missing_faults s) ns) h in
      let there = no_failure (is_some (given_of s.given n.name)) (no_fault (not (is_some (given_of s.given n.name))) s.rule.at why.MissingWith both.0) in
      let (g, is) = some_of (given_of gs n.name) (ap (λ x. is_some (given_of x n.name)) (sym same) ∙ there) in
      and_from _ _ (is_given n g own.0 is) (are_given s same ns own.1 both.1)

-- ## Steps by rules

abbrev pub term_rule_faults : Laws → RawRuleStep RawBound → List TextErr
term_rule_faults = rule_step_faults term_arity given_term_faults

module _ (t : Laws) (theory : IsTheory t) (s : RawRuleStep RawBound) (h : term_rule_faults t s ≡ []) where
  abbrev is_allowed_here : Type 0
  is_allowed_here = is_allowed t (just_by (rule_step_value given_term t s)) ≡ true

  module _ (at : ℕ) (rule : Rule) (found_at : place_of_rule t s.rule.name ≡ Some at) (is : rule_at t at ≡ Some rule) where
    just_allowed : is_allowed_here
    just_allowed =
        let whole : IsRule rule = rules_of_theories t at rule theory is in
        let k = step_keeps term_arity given_term_faults t s at rule found_at is h in
        let same = whole.needs in
        let gs = map (given_for given_term s.given) rule.needs in
        let own : AreFound rule.needs rule.needs = subst (λ ns. AreFound ns ns) (sym same) (needs_found rule.premises rule.concl) in
        let are : are_for rule.needs gs ≡ true = are_given s.given rule.needs k.bodies k.given s refl rule.needs own k.there in
        ap (λ v. is_allowed t (just_by v)) (sym (value_made term_arity given_term_faults t s at rule found_at is given_term gs refl))
        ∙ ap (λ o. is_allowed_at o (first_hypotheses s.place) gs) is
        ∙ and_from _ _ (and_from _ _ whole.faultless (placed term_arity given_term_faults rule s s.place k.place)) (ap (λ ns. are_for ns gs) (sym same) ∙ are)

  by_rule : (at : ℕ) (r : Option Rule) → place_of_rule t s.rule.name ≡ Some at → rule_at t at ≡ r → is_allowed_here
  by_rule at None p e = absurd (no_rule term_arity given_term_faults t s h (ap (option_and_then (rule_at t)) p ∙ e))
  by_rule at (Some rule) p e = just_allowed at rule p e

  by_place : (p : Option ℕ) → place_of_rule t s.rule.name ≡ p → is_allowed_here
  by_place None p = absurd (no_rule term_arity given_term_faults t s h (ap (option_and_then (rule_at t)) p))
  by_place (Some at) p = by_rule at (rule_at t at) p refl

-- ## Steps

-- a place of a rewrite that the theory has
rewrite_there : (t : Laws) (name : Sym) (p : Option ℕ) → place_of_rewrite t name ≡ p → is_none p ≡ false → is_some (rewrite_at t (unwrap_or p 0)) ≡ true
rewrite_there t name None e h = absurd cc
rewrite_there t name (Some at) e h = ap is_some (names_of_rewrites t name at e).1

-- the justification of a step without faults is allowed
pub step_allowed : (t : Laws) → IsTheory t → (s : RawStep RawBound) → term_step_faults t s ≡ [] → is_allowed t (just_of t s) ≡ true
step_allowed t theory (raw.Rule s) h = by_place t theory s h (place_of_rule t s.rule.name) refl
step_allowed t theory (raw.Rewrite s) h =
    let place = place_of_rewrite t s.rewrite.name in
    rewrite_there t s.rewrite.name place refl (no_fault (is_none place) s.rewrite.at why.UnknownName (rewrite_keeps t s h).named)
