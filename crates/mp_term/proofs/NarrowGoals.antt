-- No scope in a goal within limits is wide.
use Rattle.std.proofs.Common.{◌≡◌, ℕ, ◌+◌, ◌≤◌, List, [], ◌∷◌, length, suc, true, IsTrue, All, arith}
use Rattle.std.specs.List.{list_all}
use Rattle.mp_term.specs.declared.term.Term.{Term}
use Rattle.mp_term.specs.declared.sequent.Sequent.{Sequent}
use Rattle.mp_term.specs.Terms.{depth_of}
use Rattle.mp_term.specs.Limits.{within_limits_of, few_binders_of, sequent_few_binders_of}
use Rattle.mp_term.proofs.LimitFacts.{limits_facts}
use Rattle.mp_term.proofs.BinderLaws.{width_few}
use Rattle.mp_term.specs.Subst.{widest_from, widest_in_sequent}
use Rattle.mp_term.proofs.EqualTerms.{both_true}

hyps-narrow : (m : ℕ) (ts : List Term) → All (λ t. depth_of t ≤ 200) ts → list_all few_binders_of ts ≡ true → widest_from m ts ≤ m + length ts + 1600
hyps-narrow m [] deep few = omega arith
hyps-narrow m (t ∷ ts) deep few =
    let k = both_true (few_binders_of t) (list_all few_binders_of ts) few in
    let here = width_few t m k.0 in
    let shallow : depth_of t ≤ 200 = deep 0 t (omega arith) in
    let rest = hyps-narrow (m + 1) ts (λ i d lt. deep (suc i) d (omega arith)) k.1 in
    omega (arith, here, shallow, rest)

pub narrow-goal : (s : Sequent) → IsTrue (within_limits_of s) → IsTrue (sequent_few_binders_of s) → widest_in_sequent s ≤ 1800
narrow-goal s limits few =
    let f = limits_facts s limits in
    let k = both_true (list_all few_binders_of s.hyps) (few_binders_of s.concl) few in
    let hyps = hyps-narrow 0 s.hyps f.shallow k.0 in
    let concl = width_few s.concl (length s.hyps) k.1 in
    let many = f.few in
    let deep = f.shallow_end in
    omega (arith, hyps, concl, many, deep)
