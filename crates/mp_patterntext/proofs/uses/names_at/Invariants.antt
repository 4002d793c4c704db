use Rattle.std.proofs.Common.{◌≡◌, map, take}
use Rattle.mp_patterntext.specs.Places.{use_at}
use Rattle.mp_patterntext.specs.Uses.{use_name}
use Rattle.mp_patterntext.proofs.uses.names_at.Given as goal

abbrev pub invariant-loop-place : goal.invariant-loop-place
invariant-loop-place l = l.names ≡ map use_name (map use_at (take l.place-index l.places))
