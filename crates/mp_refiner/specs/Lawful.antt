-- The meaning of a theory is that of a logic.
use Rattle.std.proofs.Common.{◌≡◌, ◌≤◌, ◌<◌, ◌+◌, ℕ, List, [], ◌∷◌, map, length, Bool, true, false, Option, Some, None, if◌then◌else◌, refl, sym, ap, ◌∙◌, subst, arith}
use Rattle.std.specs.Prelude.{◌&&◌, ◌↔◌, IsTrue, IfOk, Ok, Err}
use Rattle.std.specs.List.{list_all}
use Rattle.std.proofs.lemmas.List.{length-map}
use Rattle.mp_logic.specs.Meaning.{IsLogic}
use Rattle.mp_logic.specs.Steps.{Outcome}
use Rattle.mp_term.specs.declared.sequent.Sequent.{Sequent}
use Rattle.mp_term.specs.declared.term.Term.{Term}
use Rattle.mp_term.specs.Equality.{same_term}
use Rattle.mp_term.proofs.EqualTerms.{both_true, and_true, term-same, term-refl}
use Rattle.mp_schema.specs.declared.instance.Inst.{Inst}
use Rattle.mp_schema.specs.Sequents.{seq}
use Rattle.mp_schema.specs.Values.{instance_of}
use Rattle.mp_match.specs.Walks.{match_of}
use Rattle.mp_rewrite.specs.Steps.{if_each, rewrite_outcome}
use Rattle.mp_rewrite.proofs.Laws.{good_outcomes}
use Rattle.mp_theory.specs.declared.place.Place.{Place}
use Rattle.mp_theory.specs.declared.rewrite.Rewrite.{Rewrite}
use Rattle.mp_theory.specs.declared.rule.Rule.{Rule}
use Rattle.mp_theory.specs.declared.just.Given.{Given}
use Rattle.mp_theory.specs.declared.just.Just.{Just}
use Rattle.mp_theory.specs.declared.just.Just.TheVariants as just
use Rattle.mp_theory.specs.Allowed.{is_good, is_allowed_at}
use Rattle.mp_theory.specs.Needs.{needs_of}
use Rattle.mp_theory.specs.Tables.{Laws, rule_at, rewrite_at, width_of}
use Rattle.mp_theory.proofs.Laws.{width_is_enough}
use Rattle.mp_refiner.specs.Steps.{given_all, kids_of, outcome_given, rule_outcome_matched, outcome_of, rule_outcome_at, outcome_by, step_by, same_terms, same_goal, meaning_of}

module _ (P : List Sequent → Type 0) where
  if_good : (kids : List Sequent) (b : Bool) → list_all is_good kids ≡ b → (list_all is_good kids ≡ true → P kids) → IfOk (if_each is_good kids) P
  if_good kids true e h = rw e (h e)
  if_good kids false e h = rw e tt

  if_given : (rule : Rule) (o : Option Inst) → ((i : Inst) → list_all is_good (kids_of rule i) ≡ true → P (kids_of rule i)) → IfOk (outcome_given rule o) P
  if_given rule None h = tt
  if_given rule (Some i) h = if_good (kids_of rule i) (list_all is_good (kids_of rule i)) refl (h i)

  -- what holds of the subgoals of each instance holds of those of a match
  pub if_matched : (rule : Rule) (given : List Given) (o : Option Inst) → ((i : Inst) → list_all is_good (kids_of rule i) ≡ true → P (kids_of rule i)) →
      IfOk (rule_outcome_matched rule given o) P
  if_matched rule given None h = tt
  if_matched rule given (Some i) h = if_given rule (given_all (needs_of rule.premises rule.concl) given i) h

  if_allowed : (rule : Rule) (first : Option ℕ) (given : List Given) (goal : Sequent) (b : Bool) → is_allowed_at (Some rule) first given ≡ b →
      ((i : Inst) → list_all is_good (kids_of rule i) ≡ true → P (kids_of rule i)) → IfOk (rule_outcome_at (Some rule) first given goal) P
  if_allowed rule first given goal true e h = rw e (if_matched rule given (match_of rule.concl first goal) h)
  if_allowed rule first given goal false e h = rw e tt

  -- what holds of the subgoals of each rule that may stand there holds of those of the step
  if_step : (o : Option Rule) (first : Option ℕ) (given : List Given) (goal : Sequent) →
      ((rule : Rule) → o ≡ Some rule → (i : Inst) → list_all is_good (kids_of rule i) ≡ true → P (kids_of rule i)) → IfOk (rule_outcome_at o first given goal) P
  if_step None first given goal h = tt
  if_step (Some rule) first given goal h = if_allowed rule first given goal (is_allowed_at (Some rule) first given) refl (h rule refl)

  -- what holds of each list of subgoals that the outcome may be holds of the outcome's
  pub if_ok : (o : Outcome Sequent) → ((kids : List Sequent) → o ≡ Ok kids → P kids) → IfOk o P
  if_ok (Ok kids) h = h kids refl
  if_ok (Err e) h = tt

  -- what holds of the subgoals of each rewrite that may stand there holds of those of the step
  if_rewrite : (o : Option Rewrite) (place : Place) (address : List ℕ) (goal : Sequent) →
      ((rewrite : Rewrite) → o ≡ Some rewrite → (kids : List Sequent) → rewrite_outcome rewrite place address goal ≡ Ok kids → P kids) → IfOk (outcome_by o place address goal) P
  if_rewrite None place address goal h = tt
  if_rewrite (Some rewrite) place address goal h = if_ok (rewrite_outcome rewrite place address goal) (h rewrite refl)

terms_same : (ts us : List Term) → same_terms ts us ≡ true → ts ≡ us
terms_same [] [] e = refl
terms_same [] (u ∷ us) e = absurd cc
terms_same (t ∷ ts) [] e = absurd cc
terms_same (t ∷ ts) (u ∷ us) e =
    let both = both_true (same_term t u) (same_terms ts us) e in
    ap (λ x. x ∷ ts) (term-same t u both.0) ∙ ap (λ xs. u ∷ xs) (terms_same ts us both.1)

terms_refl : (ts : List Term) → same_terms ts ts ≡ true
terms_refl [] = refl
terms_refl (t ∷ ts) = and_true (same_term t t) (same_terms ts ts) (term-refl t) (terms_refl ts)

goals_same : (a b : Sequent) → same_goal a b ≡ true → a ≡ b
goals_same a b e =
    let both = both_true (same_terms a.hyps b.hyps) (same_term a.concl b.concl) e in
    ap (λ ts. record { hyps = ts; concl = a.concl }) (terms_same a.hyps b.hyps both.0)
    ∙ ap (λ t. record { hyps = b.hyps; concl = t }) (term-same a.concl b.concl both.1)

goals_refl : (a : Sequent) → same_goal a a ≡ true
goals_refl a = and_true (same_terms a.hyps a.hyps) (same_term a.concl a.concl) (terms_refl a.hyps) (term-refl a.concl)

-- an allowed step of a good goal gives good subgoals, and no more than the width; and the test of goals is equality
pub lawful : (t : Laws) → IsLogic (meaning_of t)
lawful t = record {
  keeps_good = keeps;
  within_width = within;
  same_is = λ a b. (goals_same a b, λ e. subst (λ x. same_goal a x ≡ true) e (goals_refl a));
}
  where
    keeps : (j : Just) (g : Sequent) → IsTrue ((meaning_of t).allowed j) → IsTrue ((meaning_of t).good g) → IfOk (step_by t j g) (λ kids. IsTrue (list_all is_good kids))
    keeps (just.Rule at first given) g allowed good = if_step (λ kids. IsTrue (list_all is_good kids)) (rule_at t at) first given g (λ rule e i h. h)
    keeps (just.Rewrite at place address) g allowed good =
        if_rewrite (λ kids. IsTrue (list_all is_good kids)) (rewrite_at t at) place address g (λ rewrite e kids made. (good_outcomes rewrite place address g kids made).0)

    within : (j : Just) (g : Sequent) → IsTrue ((meaning_of t).allowed j) → IsTrue ((meaning_of t).good g) → IfOk (step_by t j g) (λ kids. length kids ≤ width_of t)
    within (just.Rule at first given) g allowed good =
        if_step (λ kids. length kids ≤ width_of t) (rule_at t at) first given g
        (λ rule e i h. subst (λ n. n ≤ width_of t) (sym (length-map rule.premises (seq (instance_of i)))) ((width_is_enough t at).0 rule e))
    within (just.Rewrite at place address) g allowed good =
        if_rewrite (λ kids. length kids ≤ width_of t) (rewrite_at t at) place address g
        (λ rewrite e kids made. (let most = (width_is_enough t at).1 rewrite e in let count = (good_outcomes rewrite place address g kids made).1 in omega (arith, most, count)))
