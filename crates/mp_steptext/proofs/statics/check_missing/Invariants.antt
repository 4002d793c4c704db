use Rattle.std.proofs.Common.{◌≡◌, drop}
use Rattle.std.specs.List.{flat_map}
use Rattle.mp_words.specs.Faults.{least_from}
use Rattle.mp_steptext.specs.Statics.{missing_faults}
use Rattle.mp_steptext.proofs.statics.check_missing.Given as goal

abbrev pub invariant-loop-need : goal.invariant-loop-need
invariant-loop-need g l = least_from l.held (flat_map (missing_faults l.raw) (drop l.need-index l.needs)) ≡ least_from l.held (flat_map (missing_faults l.raw) l.needs)
