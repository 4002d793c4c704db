use Rattle.std.proofs.Common.{◌≡◌, ◌+◌, ◌<◌, ◌^◌, drop, map, sum}
use Rattle.mp_term.specs.Terms.{size_of, size_step, body_step}
use Rattle.mp_logic.specs.Trees.{counted}
use Rattle.mp_term.specs.declared.term.Bound.{fold-Bound}
use Rattle.mp_term.proofs.measure.+size.Given as goal

abbrev pub invariant-loop-sub : goal.invariant-loop-sub
invariant-loop-sub l =
    (l.total < 2 ^ 64) ×
    (counted (l.total + sum (map (fold-Bound _ _ size_step body_step) (drop l.sub-index l.sub-items))) ≡ counted (size_of l.fn.t))
