use Rattle.std.proofs.Common.{◌≡◌, ◌+◌, ◌<◌, ◌^◌, drop, sum_by}
use Rattle.mp_logic.specs.Trees.{counted}
use Rattle.mp_termtext.specs.Statics.{raw_size_of}
use Rattle.mp_termtext.proofs.statics.hyps_size.Given as goal

abbrev pub invariant-loop-hyp : goal.invariant-loop-hyp
invariant-loop-hyp l =
    (l.total < 2 ^ 64) ×
    (counted (l.total + sum_by (λ h. raw_size_of h.term) (drop l.hyp-index l.hyps)) ≡ counted (sum_by (λ h. raw_size_of h.term) l.hyps))
