use Rattle.std.proofs.Common.{◌≡◌, drop}
use Rattle.std.specs.List.{flat_map}
use Rattle.mp_words.specs.Faults.{least_from}
use Rattle.mp_steptext.specs.Statics.{given_faults}
use Rattle.mp_steptext.proofs.statics.check_given.Given as goal

abbrev pub invariant-loop-raw : goal.invariant-loop-raw
invariant-loop-raw g l =
    least_from l.held (flat_map (given_faults g.B.Body.arity g.B.Body.faults l.needs) (drop l.raw-index l.given)) ≡ least_from l.fn.held (flat_map (given_faults g.B.Body.arity g.B.Body.faults l.needs) l.given)
