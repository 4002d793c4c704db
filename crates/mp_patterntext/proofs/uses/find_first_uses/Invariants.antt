use Rattle.std.proofs.Common.{◌≡◌, drop, map}
use Rattle.std.specs.Option.{option_or}
use Rattle.mp_logic.specs.declared.sym.Sym.{Sym}
use Rattle.mp_patterntext.specs.Places.{first_held, use_at}
use Rattle.mp_patterntext.specs.Uses.{first_use}
use Rattle.mp_patterntext.proofs.uses.find_first_uses.Given as goal

abbrev pub invariant-loop-place : goal.invariant-loop-place
invariant-loop-place l = (name : Sym) → option_or (first_held l.firsts name) (first_use (map use_at (drop l.place-index l.places)) name) ≡ first_use (map use_at l.places) name
