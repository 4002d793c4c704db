use Rattle.std.proofs.Common.{◌≡◌, drop}
use Rattle.mp_schema.specs.Faults.{same_names}
use Rattle.mp_patterntext.specs.Scopes.{syms_of}
use Rattle.mp_patterntext.proofs.uses.are_same_names.Given as goal

abbrev pub invariant-loop-i : goal.invariant-loop-i
invariant-loop-i l = same_names (syms_of (drop l.i l.names)) (syms_of (drop l.i l.others)) ≡ same_names (syms_of l.names) (syms_of l.others)
