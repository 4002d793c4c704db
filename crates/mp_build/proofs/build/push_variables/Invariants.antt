use Rattle.std.proofs.Common.{◌≡◌, ◌++◌, ◌-◌, map}
use Rattle.mp_term.specs.declared.term.Term.{Var}
use Rattle.mp_term.specs.Subst.{upto}
use Rattle.mp_build.proofs.build.push_variables.Given as goal

abbrev pub invariant-loop-level : goal.invariant-loop-level
invariant-loop-level l = l.terms.items ≡ l.initial.terms.items ++ map Var (upto l.first (l.level - l.first))
