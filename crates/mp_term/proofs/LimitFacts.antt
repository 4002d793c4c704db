-- The test of a sequent's limits, taken apart into its four facts.
use Rattle.std.proofs.Common.{◌≤◌, List, [], ◌∷◌, All, zero, suc, IsTrue, arith}
use Rattle.std.specs.List.{list_all}
use Rattle.std.proofs.lemmas.Bool.Decides.{nat_tests}
use Rattle.std.proofs.lemmas.Grind.{common_steps}
use Rattle.mp_term.specs.declared.term.Term.{Term}
use Rattle.mp_term.specs.declared.sequent.Sequent.{Sequent}
use Rattle.mp_term.specs.Terms.{depth_of}
use Rattle.mp_term.specs.Limits.{is_shallow, within_limits_of, IsWithinLimits}

pub all_shallow : (ts : List Term) → IsTrue (list_all is_shallow ts) → All (λ t. depth_of t ≤ 200) ts
all_shallow [] test = λ k d h. absurd (omega arith)
all_shallow (t ∷ ts) test =
    let here : depth_of t ≤ 200 = grind (arith, nat_tests, common_steps) in
    let rest : IsTrue (list_all is_shallow ts) = grind (arith, common_steps) in
    from_first ts t here (all_shallow ts rest) where
      from_first : (ts : List Term) (t : Term) → depth_of t ≤ 200 → All (λ t. depth_of t ≤ 200) ts → All (λ t. depth_of t ≤ 200) (t ∷ ts)
      from_first ts t here rest zero d h = here
      from_first ts t here rest (suc k) d h = rest k d (omega arith)

pub limits_facts : (s : Sequent) → IsTrue (within_limits_of s) → IsWithinLimits s
limits_facts s test = record {
  few = grind (arith, nat_tests, common_steps);
  shallow = all_shallow s.hyps (grind (arith, common_steps));
  shallow_end = grind (arith, nat_tests, common_steps);
  small = grind (arith, nat_tests, common_steps);
}
