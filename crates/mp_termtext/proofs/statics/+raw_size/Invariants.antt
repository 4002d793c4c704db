use Rattle.std.proofs.Common.{◌≡◌, ◌+◌, ◌<◌, ◌^◌, drop, map, sum}
use Rattle.mp_logic.specs.Trees.{counted}
use Rattle.mp_termtext.specs.declared.raw.RawBound.{fold-RawBound}
use Rattle.mp_termtext.specs.Statics.{raw_size_of, raw_size_step, raw_size_bound_step}
use Rattle.mp_termtext.proofs.statics.+raw_size.Given as goal

abbrev pub invariant-loop-sub : goal.invariant-loop-sub
invariant-loop-sub l =
    (l.total < 2 ^ 64) ×
    (counted (l.total + sum (map (fold-RawBound _ _ raw_size_step raw_size_bound_step) (drop l.sub-index l.sub-items))) ≡ counted (raw_size_of l.fn.raw))
