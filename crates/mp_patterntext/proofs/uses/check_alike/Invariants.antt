use Rattle.std.proofs.Common.{◌≡◌, drop, map}
use Rattle.std.specs.List.{flat_map}
use Rattle.mp_words.specs.Faults.{least_from}
use Rattle.mp_patterntext.specs.Places.{use_at}
use Rattle.mp_patterntext.specs.Uses.{like_faults}
use Rattle.mp_patterntext.proofs.uses.check_alike.Given as goal

abbrev pub invariant-loop-place : goal.invariant-loop-place
invariant-loop-place l = least_from l.held (flat_map (like_faults (map use_at l.places)) (map use_at (drop l.place-index l.places))) ≡ least_from l.fn.held (flat_map (like_faults (map use_at l.places)) (map use_at l.places))
