-- From what the parts of a step by a rewrite answer to the step.
use Rattle.std.proofs.Common.{◌≡◌, ◌<◌, ◌^◌, ℕ, List, length, Bool, true, false, Option, Some, None, sym, ap, ◌∙◌, subst, arith}
use Rattle.std.specs.Prelude.{All, Ok, Err, option_and_then, nat_lt, ◌&&◌}
use Rattle.std.specs.List.{list_all}
use Rattle.mp_logic.specs.declared.logic.Why.TheVariants.{NoMatch, TooLarge}
use Rattle.mp_logic.specs.Steps.{Outcome}
use Rattle.mp_term.specs.declared.term.Term.{Term}
use Rattle.mp_term.specs.declared.sequent.Sequent.{Sequent}
use Rattle.mp_term.specs.Limits.{within_limits_of}
use Rattle.mp_term.specs.Subst.{widest_of}
use Rattle.mp_term.proofs.BinderLaws.{width_few}
use Rattle.mp_schema.specs.declared.instance.Inst.{Inst}
use Rattle.mp_schema.specs.Solutions.{IsTermInstance}
use Rattle.mp_schema.specs.Values.{instance_of}
use Rattle.mp_schema.proofs.Lists.{in-all}
use Rattle.mp_theory.specs.Allowed.{is_good}
use Rattle.mp_theory.specs.Tables.{IsRewrite}
use Rattle.mp_theory.specs.declared.place.Place.{Place}
use Rattle.mp_theory.specs.declared.rewrite.Rewrite.{Rewrite}
use Rattle.mp_rewrite.specs.Addresses.{Subterm, subterm_at, hyps_before, term_at, subterm_of}
use Rattle.mp_rewrite.specs.Building.{IsReady}
use Rattle.mp_rewrite.specs.RewriteStep.{kids_by, is_barred, RewriteStep}
use Rattle.mp_rewrite.specs.Steps.{rewrite_outcome}
use Rattle.mp_rewrite.proofs.Instances.{ready, sound_contractum, sound_condition, contractum_fits, condition_fits}
use Rattle.mp_rewrite.proofs.Places.{good_goal, term_good, IsGoodSubterm, subterm_good}
use Rattle.mp_rewrite.proofs.Whole.{exactly, step_by}

module _ (rewrite : Rewrite) (place : Place) (address : List ℕ) (goal : Sequent) (whole : IsRewrite rewrite) (good : is_good goal ≡ true) where
  abbrev outcome : Outcome Sequent
  outcome = rewrite_outcome rewrite place address goal

  abbrev scope : ℕ
  scope = length (hyps_before place goal)

  module _ (steps : List ℕ) (steps_is : steps ≡ address) (hyps : List Term) (hyps_is : hyps ≡ hyps_before place goal) (t : Term) (stands : Some t ≡ term_at place goal) where
    same_walk : subterm_at steps (length hyps) t ≡ subterm_of place address goal
    same_walk =
        ap (λ a. subterm_at a (length hyps) t) steps_is ∙ ap (λ (ts : List Term). subterm_at address (length ts) t) hyps_is
        ∙ sym (ap (option_and_then (subterm_at address scope)) (sym stands))

    -- no scope in the term is wide
    pub term_narrow : widest_of t (length hyps) < 2 ^ 31
    term_narrow =
        let g = term_good place goal t (good_goal goal good) (sym stands) in
        let w = width_few t scope g.few in
        let deep = g.shallow in
        let low = g.low in
        let narrow : widest_of t scope < 2 ^ 31 = omega (arith, w, deep, low) in
        subst (λ (ts : List Term). widest_of t (length ts) < 2 ^ 31) (sym hyps_is) narrow

    module _ (at : Subterm) (found : Some at ≡ subterm_at steps (length hyps) t) where
      there : subterm_of place address goal ≡ Some at
      there = sym (found ∙ same_walk)

      pub site_good : IsGoodSubterm place goal at
      site_good = subterm_good place address goal at (good_goal goal good) there

      pub site_narrow : widest_of at.term at.scope < 2 ^ 31
      site_narrow = let g = site_good.narrow in omega (arith, g)

      module _ (barred : Bool) (barred_is : barred ≡ (nat_lt 0 (length rewrite.conds) && nat_lt (length hyps) at.scope)) where
        same_bar : barred ≡ is_barred rewrite place goal at
        same_bar = barred_is ∙ ap (λ (ts : List Term). nat_lt 0 (length rewrite.conds) && nat_lt (length ts) at.scope) hyps_is

        module _ (passes : barred ≡ false) where
          free : is_barred rewrite place goal at ≡ false
          free = sym same_bar ∙ passes

          pub no_match : (matched : Option Inst) → matched ≡ None → IsTermInstance at.scope rewrite.redex at.term matched → outcome ≡ Err NoMatch
          no_match matched is match =
              (exactly rewrite place address goal whole good (Err NoMatch)).1
              (record { at = at; there = there; free = free; none = subst (IsTermInstance at.scope rewrite.redex at.term) is match })

          module _ (matched : Option Inst) (i : Inst) (is : matched ≡ Some i) (match : IsTermInstance at.scope rewrite.redex at.term matched) where
            h : IsTermInstance at.scope rewrite.redex at.term (Some i)
            h = subst (IsTermInstance at.scope rewrite.redex at.term) is match

            pub contractum_ready : IsReady (instance_of i) rewrite.contractum
            contractum_ready =
                ready rewrite.conds rewrite.redex rewrite.contractum whole at.scope at.term i h.0 h.1 site_good.few site_good.shallow site_good.low rewrite.contractum
                (sound_contractum rewrite.conds rewrite.redex rewrite.contractum whole)
                (contractum_fits rewrite.conds rewrite.redex rewrite.contractum whole at.scope at.term (instance_of i) h.0)

            pub conditions_ready : All (IsReady (instance_of i)) rewrite.conds
            conditions_ready = in-all (IsReady (instance_of i)) rewrite.conds (λ p j.
                ready rewrite.conds rewrite.redex rewrite.contractum whole at.scope at.term i h.0 h.1 site_good.few site_good.shallow site_good.low p
                (sound_condition rewrite.conds rewrite.redex rewrite.contractum whole p j)
                (condition_fits rewrite.conds rewrite.redex rewrite.contractum whole at.scope at.term (instance_of i) h.0 p j))

            abbrev kids : List Sequent
            kids = kids_by rewrite place steps goal i.ambient (instance_of i)

            step : RewriteStep rewrite place address goal kids
            step =
                let made = step_by rewrite place address goal whole at there free (instance_of i) h.0 in
                let here = subst (λ n. RewriteStep rewrite place address goal (kids_by rewrite place address goal n (instance_of i))) (sym h.0.ambient) made in
                subst (λ a. RewriteStep rewrite place address goal (kids_by rewrite place a goal i.ambient (instance_of i))) (sym steps_is) here

            pub kids_answer : (made : List Sequent) → made ≡ kids → list_all within_limits_of kids ≡ true → outcome ≡ Ok made
            kids_answer made same small = (exactly rewrite place address goal whole good (Ok kids)).1 (step, small) ∙ ap (λ ks. Ok ks) (sym same)

            pub large_answer : list_all within_limits_of kids ≡ false → outcome ≡ Err TooLarge
            large_answer large = (exactly rewrite place address goal whole good (Err TooLarge)).1 (record { kids = kids; step = step; large = large })
