use Rattle.std.proofs.Common.{◌≡◌, max}
use Rattle.mp_theory.specs.Tables.{width_of}
use Rattle.mp_theory.proofs.LookUps.{width_from}
use Rattle.mp_theory.proofs.theory.Theory.width.Given as goal

abbrev pub invariant-loop-place : goal.invariant-loop-place
invariant-loop-place l = max l.width (width_from l.place l.self.laws) ≡ width_of l.self
