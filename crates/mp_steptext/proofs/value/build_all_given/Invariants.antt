use Rattle.std.proofs.Common.{◌≡◌, map, take}
use Rattle.mp_steptext.specs.Values.{given_for}
use Rattle.mp_steptext.proofs.value.build_all_given.Given as goal

abbrev pub invariant-loop-need : goal.invariant-loop-need
invariant-loop-need g l = l.built ≡ map (given_for g.B.Body.given l.step.given) (take l.need-index l.need-items)
