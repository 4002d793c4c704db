-- From the weights of instances to the limits of the subgoals.
use Rattle.std.proofs.Common.{◌≡◌, ◌≤◌, ◌<◌, ℕ, ◌+◌, List, [], length, true, false, nat_lt, Some, inl, inr, append-nil, sym, ap, ◌∙◌, arith}
use Rattle.std.specs.Prelude.{sum_by, nat_le, Err, ◌||◌}
use Rattle.std.proofs.lemmas.Bool.Decides.{nat_tests}
use Rattle.std.proofs.lemmas.Grind.{common_steps}
use Rattle.mp_logic.specs.Trees.{counted}
use Rattle.mp_term.specs.declared.term.Term.{Term}
use Rattle.mp_term.specs.declared.sequent.Sequent.{Sequent}
use Rattle.mp_term.specs.Terms.{size_of, depth_of}
use Rattle.mp_term.specs.Limits.{is_shallow, sequent_size_of, within_limits_of}
use Rattle.mp_term.proofs.EqualTerms.{decided, both_true}
use Rattle.mp_schema.specs.declared.instance.Inst.{Inst}
use Rattle.mp_schema.specs.declared.pattern.Pattern.{Pattern}
use Rattle.mp_schema.specs.Sequents.{ground_at}
use Rattle.mp_schema.specs.Solutions.{ambient_only}
use Rattle.mp_schema.specs.Values.{instance_of}
use Rattle.mp_build.specs.declared.error.BuildErr.{BuildErr}
use Rattle.mp_build.specs.declared.error.BuildErr.TheVariants.{TooLarge, NoMemory}
use Rattle.mp_build.specs.Built.{term_of, is_small_term, IsBuiltTerm, IsBuilt}
use Rattle.mp_build.proofs.Laws.{plain_instance}
use Rattle.mp_theory.specs.declared.place.Place.{Place}
use Rattle.mp_rewrite.specs.Addresses.{Subterm, subterm_of, put_in}
use Rattle.mp_rewrite.specs.Building.{IsReady, AreFew}
use Rattle.mp_rewrite.specs.RewriteStep.{made_by}
use Rattle.mp_rewrite.proofs.Places.{limited, changed_is, change_small, change_within, change_large, condition_within, condition_small, condition_large}

-- ## Small terms

pub record IsSmall (t : Term) : Type 0 where
  pub size : size_of t ≤ 20000
  pub depth : depth_of t ≤ 200

pub small_is : (t : Term) → is_small_term t ≡ true → IsSmall t
small_is t e =
    let both = both_true (is_shallow t) (nat_le (size_of t) 20000) e in
    let a = both.0 in
    let b = both.1 in
    record { size = grind (arith, nat_tests, b); depth = grind (arith, nat_tests, a) }

module _ (i : Inst) (p : Pattern) (ready : IsReady (instance_of i) p) where
  abbrev new : Term
  new = made_by i.ambient (instance_of i) p

  -- what is built is what the instance makes
  pub built_is : term_of (instance_of i) p ≡ new
  built_is = plain_instance (ground_at (instance_of i) (λ name. 0)) (ambient_only i.ambient) (instance_of i).values p ready.plain (append-nil (upto_ambient)) [] i.ambient
    where
      upto_ambient : List ℕ
      upto_ambient = ambient_only i.ambient []

  -- ## The rewritten goal

  module _ (place : Place) (address : List ℕ) (goal : Sequent) (at : Subterm) (there : subterm_of place address goal ≡ Some at) (within : within_limits_of goal ≡ true) where
    abbrev made : Sequent
    made = put_in place address new goal

    pub rewritten_err : (e : BuildErr) → IsBuiltTerm (term_of (instance_of i) p) (Err e) → IsBuilt made (Err e)
    rewritten_err TooLarge large = change_large place address goal at there new (limited goal within) (ap is_small_term (sym built_is) ∙ large)
    rewritten_err NoMemory none = tt

    module _ (t : Term) (is : t ≡ term_of (instance_of i) p) where
      t_is : t ≡ new
      t_is = is ∙ built_is

      pub rewritten_is : put_in place address t goal ≡ made
      rewritten_is = ap (λ x. put_in place address x goal) t_is

      pub rewritten_over : (nodes depth : ℕ) → (nat_lt 20000 nodes || nat_lt 200 depth) ≡ true → nodes + size_of at.term ≡ sequent_size_of goal + size_of t → depth ≡ length address + depth_of t →
          within_limits_of made ≡ false
      rewritten_over nodes depth over nodes_are depth_is = elim (decided (within_limits_of made)) [
        | inl k ↦
            let c = change_small place address goal at there new (limited goal within) k in
            let deep = c.deep in
            let small = c.small in
            let s = ap size_of t_is in
            let d = ap depth_of t_is in
            let low : nodes ≤ 20000 = omega (arith, nodes_are, small, s) in
            let high : depth ≤ 200 = omega (arith, depth_is, deep, d) in
            let none : (nat_lt 20000 nodes || nat_lt 200 depth) ≡ false = grind (arith, nat_tests, common_steps, low, high) in
            absurd cc
        | inr k ↦ k
      ]

      pub rewritten_within : (nodes depth : ℕ) → (nat_lt 20000 nodes || nat_lt 200 depth) ≡ false → nodes + size_of at.term ≡ sequent_size_of goal + size_of t → depth ≡ length address + depth_of t →
          within_limits_of made ≡ true
      rewritten_within nodes depth e nodes_are depth_is =
          let low : nodes ≤ 20000 = grind (arith, nat_tests, common_steps, e) in
          let high : depth ≤ 200 = grind (arith, nat_tests, common_steps, e) in
          let s = ap size_of t_is in
          let d = ap depth_of t_is in
          change_within place address goal at there new (limited goal within) (record { deep = omega (arith, depth_is, high, d); small = omega (arith, nodes_are, low, s) })

  -- ## What is left of a condition

  module _ (before : List Term) (few : AreFew before) where
    abbrev left : Sequent
    left = record { hyps = before; concl = new }

    pub condition_err : (e : BuildErr) → IsBuiltTerm (term_of (instance_of i) p) (Err e) → IsBuilt left (Err e)
    condition_err TooLarge large = condition_large before new few (ap is_small_term (sym built_is) ∙ large)
    condition_err NoMemory none = tt

    module _ (t : Term) (is : t ≡ term_of (instance_of i) p) where
      pub condition_over : 20000 < sum_by size_of before + size_of t → within_limits_of left ≡ false
      condition_over over = elim (decided (within_limits_of left)) [
        | inl k ↦
            let small = (condition_small before new few k).1 in
            let s = ap size_of (is ∙ built_is) in
            absurd (omega (arith, over, small, s))
        | inr k ↦ k
      ]

      pub condition_fits : is_small_term (term_of (instance_of i) p) ≡ true → sum_by size_of before + size_of t ≤ 20000 → within_limits_of left ≡ true
      condition_fits small low =
          let s = ap size_of (is ∙ built_is) in condition_within before new few (ap is_small_term (sym built_is) ∙ small) (omega (arith, low, s))

      pub left_is : (hyps : List Term) → hyps ≡ before → record { hyps = hyps; concl = t } ≡ left
      left_is hyps same =
          ap (λ (ts : List Term). let x : Sequent = record { hyps = ts; concl = t } in x) same ∙ ap (λ (u : Term). let x : Sequent = record { hyps = before; concl = u } in x) (is ∙ built_is)

-- ## The sizes that are counted

pub record AreCounted (place : Place) (address : List ℕ) (goal : Sequent) (at : Subterm) : Type 0 where
  pub hyps : counted (sum_by size_of goal.hyps) ≡ sum_by size_of goal.hyps
  pub concl : counted (size_of goal.concl) ≡ size_of goal.concl
  pub old : counted (size_of at.term) ≡ size_of at.term
  pub small : sum_by size_of goal.hyps + size_of goal.concl ≤ 20000
  pub part : size_of at.term ≤ sum_by size_of goal.hyps + size_of goal.concl

pub counted_sizes : (place : Place) (address : List ℕ) (goal : Sequent) (at : Subterm) → subterm_of place address goal ≡ Some at → within_limits_of goal ≡ true → AreCounted place address goal at
counted_sizes place address goal at there within =
    let l = limited goal within in
    let small = l.small in
    let part = (changed_is place address goal at there at.term).part in
    record { hyps = omega (arith, small); concl = omega (arith, small); old = omega (arith, small, part); small = small; part = part }
