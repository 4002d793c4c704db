use Rattle.std.proofs.Common.{◌≡◌, ◌+◌, drop, sum_by}
use Rattle.std.specs.List.{list_all}
use Rattle.mp_logic.specs.Trees.{counted}
use Rattle.mp_term.specs.Terms.{size_of}
use Rattle.mp_term.specs.Limits.{is_shallow}
use Rattle.mp_term.proofs.sequent.within_limits.Given as goal

abbrev pub invariant-loop-hyp : goal.invariant-loop-hyp
invariant-loop-hyp l =
    (counted (l.total + sum_by size_of (drop l.hyp-index l.hyp-items)) ≡ counted (sum_by size_of l.hyp-items + size_of l.s.concl)) ×
    (list_all is_shallow (drop l.hyp-index l.hyp-items) ≡ list_all is_shallow l.hyp-items)
