use Rattle.std.proofs.Common.{◌≡◌, map, take}
use Rattle.mp_steptext.specs.Values.{from_0}
use Rattle.mp_steptext.proofs.value.build_address.Given as goal

abbrev pub invariant-loop-number : goal.invariant-loop-number
invariant-loop-number l = l.built ≡ map from_0 (take l.number-index l.address)
