use Rattle.std.proofs.Common.{◌≡◌, drop}
use Rattle.mp_names.specs.Sets.{is_among}
use Rattle.mp_patterntext.specs.Scopes.{syms_of}
use Rattle.mp_patterntext.proofs.scope.has_name.Given as goal

abbrev pub invariant-loop-other : goal.invariant-loop-other
invariant-loop-other l = is_among (syms_of (drop l.other-index l.names)) l.name ≡ is_among (syms_of l.names) l.name
