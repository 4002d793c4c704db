use Rattle.std.proofs.Common.{◌≡◌, drop, map}
use Rattle.mp_term.specs.Subst.{occurs_in, any_true}
use Rattle.mp_term.proofs.Layers.{occurs_bound}
use Rattle.mp_build.proofs.weights.+occurs.Given as goal

abbrev pub invariant-loop-sub : goal.invariant-loop-sub
invariant-loop-sub l = any_true (map (occurs_bound l.level) (drop l.sub-index l.sub-items)) ≡ occurs_in l.level l.fn.t
