use Rattle.std.proofs.Common.{◌≡◌, drop}
use Rattle.std.specs.List.{flat_map}
use Rattle.mp_term.specs.declared.limits.TheConstants.{MOST_NODES}
use Rattle.mp_words.specs.Faults.{least_from}
use Rattle.mp_words.specs.Ranges.{number_faults}
use Rattle.mp_steptext.proofs.statics.check_subterms.Given as goal

abbrev pub invariant-loop-number : goal.invariant-loop-number
invariant-loop-number l = least_from l.held (flat_map (number_faults 1 MOST_NODES) (drop l.number-index l.address)) ≡ least_from l.fn.held (flat_map (number_faults 1 MOST_NODES) l.address)
