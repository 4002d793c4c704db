use Rattle.std.proofs.Common.{◌≡◌, ℕ, ◌<◌, get_or}
use Rattle.mp_term.specs.declared.term.Term.{Var}
use Rattle.mp_build.proofs.build.are_variables.Given as goal

abbrev pub invariant-loop-i : goal.invariant-loop-i
invariant-loop-i l = (k : ℕ) → k < l.i → get_or l.terms k (Var 0) ≡ Var k
