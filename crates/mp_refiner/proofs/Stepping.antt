-- From what the parts of a step answer to the step.
use Rattle.std.proofs.Common.{◌≡◌, ◌≤◌, ◌<◌, ◌+◌, ℕ, List, map, length, Bool, true, false, Option, Some, None, if◌then◌else◌, All, refl, sym, ap, ◌∙◌, subst, arith}
use Rattle.std.specs.Prelude.{Result, Ok, Err, IfOk, IfSome, IsTrue, ◌↔◌}
use Rattle.std.specs.List.{list_all}
use Rattle.std.proofs.lemmas.List.{length-map}
use Rattle.mp_logic.specs.declared.logic.StepErr.{StepErr}
use Rattle.mp_logic.specs.declared.logic.Why.TheVariants.{NoMatch, BadArgument, TooLarge}
use Rattle.mp_logic.specs.Steps.{Outcome, IsAnswer}
use Rattle.mp_term.specs.declared.sequent.Sequent.{Sequent}
use Rattle.mp_term.specs.Limits.{within_limits_of}
use Rattle.mp_schema.specs.declared.instance.Inst.{Inst}
use Rattle.mp_schema.specs.declared.schema.Schema.{Schema}
use Rattle.mp_schema.specs.Sequents.{seq}
use Rattle.mp_schema.specs.Values.{instance_of}
use Rattle.mp_schema.specs.Solutions.{IsInstance}
use Rattle.mp_schema.proofs.Lists.{in-all}
use Rattle.mp_match.specs.Covering.{schema_covered}
use Rattle.mp_match.specs.Spread.{IsSpread}
use Rattle.mp_match.specs.Walks.{match_of}
use Rattle.mp_rewrite.specs.Steps.{if_each, rewrite_outcome}
use Rattle.mp_rewrite.proofs.Laws.{good_outcomes}
use Rattle.mp_theory.proofs.Laws.{width_is_enough}
use Rattle.mp_theory.specs.declared.place.Place.{Place}
use Rattle.mp_theory.specs.declared.rewrite.Rewrite.{Rewrite}
use Rattle.mp_theory.specs.Allowed.{is_good, is_allowed_at}
use Rattle.mp_theory.specs.declared.rule.Need.{Need}
use Rattle.mp_theory.specs.declared.rule.Rule.{Rule}
use Rattle.mp_theory.specs.declared.just.Given.{Given}
use Rattle.mp_theory.specs.Needs.{needs_of}
use Rattle.mp_theory.specs.Tables.{Laws, IsRule, rule_at, rewrite_at, width_of}
use Rattle.mp_refiner.specs.Lawful.{if_matched, if_ok}
use Rattle.mp_refiner.specs.Ready.{IsUsable, AreNew, IsReady}
use Rattle.mp_refiner.specs.Steps.{given_all, outcome_given, outcome_of}
use Rattle.mp_refiner.proofs.Asked.{IsAsked, asked, need_usable, needs_new}
use Rattle.mp_refiner.proofs.Filled.{gives_made}
use Rattle.mp_refiner.proofs.Goods.{ready, good_exactly}
use Rattle.mp_refiner.proofs.Matched.{IsMatch}
use Rattle.mp_refiner.proofs.Whole.{given_is, is_outcome}

-- the match that is answered
pub match_made : (s : Schema) (first : Option ℕ) (goal : Sequent) (matched : Option Inst) (i : Inst) → matched ≡ Some i → IsInstance s first goal matched →
    IfSome matched (λ j. IsTrue (schema_covered j s)) → IfSome matched (λ j. IsSpread j s goal) → IsMatch s first goal i
match_made s first goal matched i some whole covers spread = record {
  whole = subst (IsInstance s first goal) some whole;
  covers = subst (λ o. IfSome o (λ j. IsTrue (schema_covered j s))) some covers;
  spread = subst (λ o. IfSome o (λ j. IsSpread j s goal)) some spread;
}

module _ (rule : Rule) (first : Option ℕ) (given : List Given) (goal : Sequent) (whole : IsRule rule) (allowed : IsTrue (is_allowed_at (Some rule) first given)) (good : IsTrue (is_good goal)) where
  a : IsAsked rule.premises rule.concl first given goal
  a = asked rule first given goal allowed good

  -- no instance gives the goal
  pub none_answer : (matched : Option Inst) → matched ≡ None → IsInstance rule.concl first goal matched → outcome_of rule first given goal ≡ Err NoMatch
  none_answer matched e h = is_outcome rule first given goal whole allowed good (Err NoMatch) (subst (IsInstance rule.concl first goal) e h)

  module _ (i : Inst) (is : IsMatch rule.concl first goal i) (ns : List Need) (needs : ns ≡ rule.needs) where
    same_needs : ns ≡ needs_of rule.premises rule.concl
    same_needs = needs ∙ whole.needs

    pub usable_needs : All (IsUsable i.ctxs) ns
    usable_needs =
        subst (All (IsUsable i.ctxs)) (sym same_needs)
        (in-all (IsUsable i.ctxs) (needs_of rule.premises rule.concl) (need_usable rule.premises rule.concl first given goal a i is))

    pub new_needs : AreNew i.metas ns
    new_needs = subst (AreNew i.metas) (sym same_needs) (needs_new rule.premises rule.concl first given goal a i is)

    by_match : outcome_of rule first given goal ≡ outcome_given rule (given_all (needs_of rule.premises rule.concl) given i)
    by_match = is_outcome rule first given goal whole allowed good (outcome_given rule (given_all (needs_of rule.premises rule.concl) given i)) (given_is rule first given goal whole allowed good i is)

    module _ (new : Inst) (gs : List Given) (terms : gs ≡ given) (done : Bool) (told : (if done then Some new else None) ≡ given_all ns gs i) where
      given_told : (if done then Some new else None) ≡ given_all (needs_of rule.premises rule.concl) given i
      given_told = told ∙ ap (λ hs. given_all ns hs i) terms ∙ ap (λ (ms : List Need). given_all ms given i) same_needs

      -- some given term isn't a value of its need
      pub bad_answer : done ≡ false → outcome_of rule first given goal ≡ Err BadArgument
      bad_answer e = by_match ∙ ap (outcome_given rule) (sym given_told ∙ ap (λ (b : Bool). if b then Some new else None) e)

      module _ (went : done ≡ true) where
        all : given_all (needs_of rule.premises rule.concl) given i ≡ Some new
        all = sym given_told ∙ ap (λ (b : Bool). if b then Some new else None) went

        pub closed_new : new.ambient ≡ 0
        closed_new = (gives_made rule.premises rule.concl first given goal a i is new all).ambient

        module _ (ps : List Schema) (same : ps ≡ rule.premises) where
          pub ready_premises : All (IsReady (instance_of new)) ps
          ready_premises =
              subst (All (IsReady (instance_of new))) (sym same)
              (in-all (IsReady (instance_of new)) rule.premises (ready rule.premises rule.concl first given goal a i is new all))

          pub step_answer : (r : Result (List Sequent) StepErr) → IsAnswer (if_each within_limits_of (map (seq (instance_of new)) ps)) r → IsAnswer (outcome_of rule first given goal) r
          step_answer r answer =
              let e : outcome_of rule first given goal ≡ if_each within_limits_of (map (seq (instance_of new)) ps) =
              by_match ∙ ap (outcome_given rule) all
              ∙ ap (λ (b : Bool). if b then Ok (map (seq (instance_of new)) rule.premises) else Err TooLarge) (good_exactly rule.premises rule.concl first given goal a i is new all)
              ∙ ap (λ qs. if_each within_limits_of (map (seq (instance_of new)) qs)) (sym same) in
              subst (λ o. IsAnswer o r) (sym e) answer

-- what holds of the outcome's subgoals holds of the answer's
pub answer_has : (P : List Sequent → Type 0) (o : Outcome Sequent) (r : Result (List Sequent) StepErr) → IsAnswer o r → IfOk o P → IfOk r P
answer_has P o (Ok kids) a h = rw a at h
answer_has P o (Err e) a h = tt

module _ (goal : Sequent) (r : Result (List Sequent) StepErr) where
  module _ (rule : Rule) (first : Option ℕ) (given : List Given) (answer : IsAnswer (outcome_of rule first given goal) r) where
    -- the subgoals that a rule gives are good
    pub answer_good : IfOk r (λ kids. IsTrue (list_all is_good kids))
    answer_good = answer_has (λ kids. IsTrue (list_all is_good kids)) (outcome_of rule first given goal) r answer
        (if_matched (λ kids. IsTrue (list_all is_good kids)) rule given (match_of rule.concl first goal) (λ i h. h))

    -- they are no more than the width
    pub answer_narrow : (t : Laws) (at : ℕ) → Some rule ≡ rule_at t at → IfOk r (λ kids. length kids ≤ width_of t)
    answer_narrow t at e = answer_has (λ kids. length kids ≤ width_of t) (outcome_of rule first given goal) r answer
        (if_matched (λ kids. length kids ≤ width_of t) rule given (match_of rule.concl first goal)
        (λ i h. subst (λ n. n ≤ width_of t) (sym (length-map rule.premises (seq (instance_of i)))) ((width_is_enough t at).0 rule (sym e))))

  module _ (rewrite : Rewrite) (place : Place) (address : List ℕ) (answer : IsAnswer (rewrite_outcome rewrite place address goal) r) where
    -- the subgoals that a rewrite gives are good
    pub rewrite_good : IfOk r (λ kids. IsTrue (list_all is_good kids))
    rewrite_good = answer_has (λ kids. IsTrue (list_all is_good kids)) (rewrite_outcome rewrite place address goal) r answer
        (if_ok (λ kids. IsTrue (list_all is_good kids)) (rewrite_outcome rewrite place address goal) (λ kids made. (good_outcomes rewrite place address goal kids made).0))

    -- they are no more than the width
    pub rewrite_narrow : (t : Laws) (at : ℕ) → Some rewrite ≡ rewrite_at t at → IfOk r (λ kids. length kids ≤ width_of t)
    rewrite_narrow t at e = answer_has (λ kids. length kids ≤ width_of t) (rewrite_outcome rewrite place address goal) r answer
        (if_ok (λ kids. length kids ≤ width_of t) (rewrite_outcome rewrite place address goal)
        (λ kids made. (let most = (width_is_enough t at).1 rewrite (sym e) in let count = (good_outcomes rewrite place address goal kids made).1 in omega (arith, most, count))))

-- two tests of one fact are the same
pub same_test : (r s : Bool) (P : Type 0) → (IsTrue r ↔ P) → (IsTrue s ↔ P) → r ≡ s
same_test true true P f g = refl
same_test false false P f g = refl
same_test true false P f g = let k = g.1 (f.0 refl) in absurd cc
same_test false true P f g = let k = f.1 (g.0 refl) in absurd cc
