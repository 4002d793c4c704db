-- What a rewrite says of a goal, in terms of instances.
use Rattle.std.specs.Prelude.{◌≡◌, ℕ, List, [], ◌∷◌, map, length, Bool, false, ◌&&◌, nat_lt, IsTrue, Some}
use Rattle.std.specs.List.{list_all}
use Rattle.mp_term.specs.declared.term.Term.{Term}
use Rattle.mp_term.specs.declared.sequent.Sequent.{Sequent}
use Rattle.mp_schema.specs.declared.pattern.Pattern.{Pattern}
use Rattle.mp_schema.specs.Instances.{inst_of, fits}
use Rattle.mp_schema.specs.Sequents.{Instance}
use Rattle.mp_schema.specs.Solutions.{ambient_only, GivesTerm}
use Rattle.mp_theory.specs.declared.place.Place.{Place}
use Rattle.mp_theory.specs.declared.rewrite.Rewrite.{Rewrite}
use Rattle.mp_rewrite.specs.Addresses.{Subterm, hyps_before, subterm_of, put_in}

-- the term of this scope that the instance makes of a pattern without levels and contexts
abbrev pub made_by : ℕ → Instance → Pattern → Term
made_by scope v p = inst_of (ambient_only scope) v.values p [] scope

-- the goal that is left of a condition: it has the hypotheses before the place
abbrev pub condition_by : Place → Sequent → ℕ → Instance → Pattern → Sequent
condition_by place goal scope v p = record { hyps = hyps_before place goal; concl = made_by scope v p }

-- the subgoals by an instance: the goal with the contractum's instance at the address, and then each condition's instance
abbrev pub kids_by : Rewrite → Place → List ℕ → Sequent → ℕ → Instance → List Sequent
kids_by rewrite place address goal scope v =
    put_in place address (made_by scope v rewrite.contractum) goal ∷ map (condition_by place goal scope v) rewrite.conds

-- the rewrite has a condition, and the address passes a binder: the subterm stands in a wider scope than the term at the place
abbrev pub is_barred : Rewrite → Place → Sequent → Subterm → Bool
is_barred rewrite place goal at = nat_lt 0 (length rewrite.conds) && nat_lt (length (hyps_before place goal)) at.scope

-- there is a subterm at the address, by some instance it is the redex, and the kids are those of this instance, whose values
-- use no more variables than each place of the contractum and of the conditions has; if there is a condition, the address
-- passes no binder
pub record RewriteStep (rewrite : Rewrite) (place : Place) (address : List ℕ) (goal : Sequent) (kids : List Sequent) : Type 0 where
  pub at : Subterm
  pub instance : Instance
  pub there : subterm_of place address goal ≡ Some at
  pub free : is_barred rewrite place goal at ≡ false
  pub match : GivesTerm at.scope rewrite.redex at.term instance
  pub fits : IsTrue (list_all (fits (λ names. at.scope) instance.values) (rewrite.contractum ∷ rewrite.conds))
  pub kids_are : kids ≡ kids_by rewrite place address goal at.scope instance
