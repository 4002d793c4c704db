use Rattle.std.proofs.Common.{◌≡◌, ◌+◌, ◌<◌, ◌^◌, drop, map, max, sum}
use Rattle.mp_term.specs.Terms.{size_of, size_step, depth_of, depth_step, body_step}
use Rattle.mp_logic.specs.Lists.{greatest}
use Rattle.mp_logic.specs.Trees.{counted}
use Rattle.mp_term.specs.declared.term.Bound.{fold-Bound}
use Rattle.mp_term.proofs.measure.+weigh.Given as goal

abbrev pub invariant-loop-sub : goal.invariant-loop-sub
invariant-loop-sub l =
    let left = drop l.sub-index l.sub-items in
    (l.total < 2 ^ 64) ×
    (l.greatest < 2 ^ 64) ×
    (counted (l.total + sum (map (fold-Bound _ _ size_step body_step) left)) ≡ counted (size_of l.fn.t)) ×
    (counted (1 + max l.greatest (greatest (map (fold-Bound _ _ depth_step body_step) left))) ≡ counted (depth_of l.fn.t))
