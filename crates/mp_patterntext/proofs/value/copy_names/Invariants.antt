use Rattle.std.proofs.Common.{◌≡◌, take}
use Rattle.mp_patterntext.specs.Scopes.{syms_of}
use Rattle.mp_patterntext.proofs.value.copy_names.Given as goal

abbrev pub invariant-loop-name : goal.invariant-loop-name
invariant-loop-name l = l.copied ≡ syms_of (take l.name-index l.names)
