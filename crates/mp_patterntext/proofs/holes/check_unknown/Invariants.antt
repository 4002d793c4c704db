use Rattle.std.proofs.Common.{◌≡◌, drop}
use Rattle.mp_words.specs.Faults.{least_from}
use Rattle.mp_patterntext.specs.Scopes.{syms_of, unknown_faults}
use Rattle.mp_patterntext.proofs.holes.check_unknown.Given as goal

abbrev pub invariant-loop-name : goal.invariant-loop-name
invariant-loop-name l = least_from l.held (unknown_faults l.why (syms_of l.known) (drop l.name-index l.asked)) ≡ least_from l.fn.held (unknown_faults l.why (syms_of l.known) l.asked)
