use Rattle.std.proofs.Common.{◌≡◌, [], drop, take}
use Rattle.mp_words.specs.Faults.{least_from}
use Rattle.mp_words.specs.Seconds.{second_after}
use Rattle.mp_patterntext.specs.Scopes.{syms_of}
use Rattle.mp_patterntext.proofs.scope.check_apart.Given as goal

abbrev pub invariant-loop-i : goal.invariant-loop-i
invariant-loop-i l = least_from l.held (second_after (λ n. n) l.why (syms_of (take l.i l.names)) (drop l.i l.names)) ≡ least_from l.fn.held (second_after (λ n. n) l.why [] l.names)
