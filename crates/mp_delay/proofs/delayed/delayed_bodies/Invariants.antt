use Rattle.std.proofs.Common.{◌≡◌, IsTrue, drop, map, take}
use Rattle.mp_term.specs.Terms.{all_true}
use Rattle.mp_delay.specs.Moves.{moved, relevel_bound, bound_fits}
use Rattle.mp_delay.specs.Heads.{bound_of}
use Rattle.mp_delay.proofs.delayed.delayed_bodies.Given as goal

abbrev pub invariant-loop-kid : goal.invariant-loop-kid
invariant-loop-kid l =
    IsTrue (all_true (map (bound_fits (moved l.moves)) (drop l.kid-index l.kids))) ×
    (map bound_of l.bodies ≡ map (relevel_bound (moved l.moves)) (take l.kid-index l.kids))
