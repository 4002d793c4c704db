use Rattle.std.proofs.Common.{take}
use Rattle.mp_names.specs.Sets.{Met}
use Rattle.mp_patterntext.specs.Scopes.{syms_of}
use Rattle.mp_patterntext.proofs.holes.names_of.Given as goal

abbrev pub invariant-loop-name : goal.invariant-loop-name
invariant-loop-name l = Met l.names (syms_of (take l.name-index l.written))
