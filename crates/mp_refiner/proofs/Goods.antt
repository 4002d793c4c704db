-- The subgoals of a good goal may be built, and are good.
use Rattle.std.proofs.Common.{◌≡◌, inl, inr, ℕ, List, [], ◌∷◌, map, Bool, true, false, ◌&&◌, Option, Some, refl}
use Rattle.std.specs.List.{list_all}
use Rattle.mp_term.specs.declared.sequent.Sequent.{Sequent}
use Rattle.mp_term.specs.Limits.{within_limits_of, sequent_in_scope_of, sequent_few_binders_of}
use Rattle.mp_schema.specs.declared.instance.Inst.{Inst}
use Rattle.mp_schema.specs.declared.schema.Schema.{Schema}
use Rattle.mp_schema.specs.Sequents.{Instance, seq, schema_fits}
use Rattle.mp_schema.specs.Values.{instance_of}
use Rattle.mp_build.specs.Laws.{IsTame, HasFewBinders}
use Rattle.mp_build.proofs.Laws.{schema_is_narrow, sequent_has_few_binders, sequent_is_in_scope}
use Rattle.mp_theory.specs.declared.just.Given.{Given}
use Rattle.mp_theory.specs.Needs.{needs_of}
use Rattle.mp_refiner.specs.Ready.{IsReady}
use Rattle.mp_theory.specs.Allowed.{is_good}
use Rattle.mp_refiner.specs.Steps.{given_all}
use Rattle.mp_schema.specs.Occurrences.{In}
use Rattle.mp_schema.proofs.Agreeing.{and_both}
use Rattle.mp_refiner.proofs.Asked.{IsAsked}
use Rattle.mp_refiner.proofs.Filled.{gives_made, meets_made, premise_fits}
use Rattle.mp_refiner.proofs.Tame.{tame}
use Rattle.mp_refiner.proofs.Matched.{IsMatch}

module _ (ps : List Schema) (c : Schema) (first : Option ℕ) (given : List Given) (goal : Sequent) (a : IsAsked ps c first given goal) (i : Inst) (is : IsMatch c first goal i) (new : Inst)
    (all : given_all (needs_of ps c) given i ≡ Some new) where
  abbrev made : Instance
  made = instance_of new

  is_tame : IsTame made
  is_tame = tame ps c first given goal a i is new all

  fits : (p : Schema) → In p ps → schema_fits made p ≡ true
  fits = premise_fits made ps c first given goal a (gives_made ps c first given goal a i is new all).fit (meets_made ps c first given goal a i is new all)

  pub ready : (p : Schema) → In p ps → IsReady made p
  ready p j = record {
    placed = a.rule.placed p j;
    fitting = fits p j;
    narrow = schema_is_narrow made p is_tame (a.rule.few p j) (a.rule.shallow p j);
  }

  good_kid : (p : Schema) → In p ps → within_limits_of (seq made p) ≡ true → is_good (seq made p) ≡ true
  good_kid p j within =
      let values : HasFewBinders made = record { metas = λ name. (is_tame.metas name).few; kept = λ name k d lt. (is_tame.kept name k d lt).few } in
      let scoped = sequent_is_in_scope made p (gives_made ps c first given goal a i is new all).ambient (a.rule.placed p j) (fits p j) in
      let few = sequent_has_few_binders made p values (a.rule.few p j) in
      rw (scoped, few, within) refl

  good_kids : (qs : List Schema) → ((p : Schema) → In p qs → In p ps) → list_all within_limits_of (map (seq made) qs) ≡ true → list_all is_good (map (seq made) qs) ≡ true
  good_kids [] k e = refl
  good_kids (p ∷ qs) k e =
      let both = and_both (within_limits_of (seq made p)) (list_all within_limits_of (map (seq made) qs)) e in
      let here = good_kid p (k p (inl refl)) both.0 in
      let rest = good_kids qs (λ q j. k q (inr j)) both.1 in
      rw (here, rest) refl

  limits_of_good : (qs : List Schema) → list_all is_good (map (seq made) qs) ≡ true → list_all within_limits_of (map (seq made) qs) ≡ true
  limits_of_good [] e = refl
  limits_of_good (p ∷ qs) e =
      let both = and_both (is_good (seq made p)) (list_all is_good (map (seq made) qs)) e in
      let here = (and_both (sequent_in_scope_of (seq made p) && sequent_few_binders_of (seq made p)) (within_limits_of (seq made p)) both.0).1 in
      let rest = limits_of_good qs both.1 in
      rw (here, rest) refl

  -- the subgoals are good exactly where they are within the limits
  pub good_exactly : list_all is_good (map (seq made) ps) ≡ list_all within_limits_of (map (seq made) ps)
  good_exactly = by (list_all is_good (map (seq made) ps)) (list_all within_limits_of (map (seq made) ps)) refl refl
    where
      by : (g w : Bool) → list_all is_good (map (seq made) ps) ≡ g → list_all within_limits_of (map (seq made) ps) ≡ w → g ≡ w
      by true true e f = refl
      by true false e f = let k = limits_of_good ps e in absurd cc
      by false true e f = let k = good_kids ps (λ p j. j) f in absurd cc
      by false false e f = refl
