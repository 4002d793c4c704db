use Rattle.std.proofs.Common.{◌≡◌, drop}
use Rattle.std.specs.List.{flat_map}
use Rattle.mp_words.specs.Faults.{least_from}
use Rattle.mp_theorytext.specs.Statics.{law_faults}
use Rattle.mp_theorytext.proofs.statics.check_laws.Given as goal

abbrev pub invariant-loop-raw : goal.invariant-loop-raw
invariant-loop-raw l = least_from l.held (flat_map law_faults (drop l.raw-index l.raws)) ≡ least_from l.fn.held (flat_map law_faults l.raws)
