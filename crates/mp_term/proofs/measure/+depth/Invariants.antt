use Rattle.std.proofs.Common.{◌≡◌, ◌+◌, ◌<◌, ◌^◌, drop, map, max}
use Rattle.mp_term.specs.Terms.{depth_of, depth_step, body_step}
use Rattle.mp_logic.specs.Lists.{greatest}
use Rattle.mp_logic.specs.Trees.{counted}
use Rattle.mp_term.specs.declared.term.Bound.{fold-Bound}
use Rattle.mp_term.proofs.measure.+depth.Given as goal

abbrev pub invariant-loop-sub : goal.invariant-loop-sub
invariant-loop-sub l =
    (l.greatest < 2 ^ 64) ×
    (counted (1 + max l.greatest (greatest (map (fold-Bound _ _ depth_step body_step) (drop l.sub-index l.sub-items)))) ≡ counted (depth_of l.fn.t))
