use Rattle.std.proofs.Common.{◌≡◌, ◌++◌, map, drop}
use Rattle.mp_term.specs.declared.term.Term.{Var}
use Rattle.mp_schema.specs.declared.pattern.Pattern.{Pattern}
use Rattle.mp_build.proofs.sequent.push_places.Given as goal

abbrev pub invariant-loop-arg : goal.invariant-loop-arg
invariant-loop-arg l = l.terms.items ++ map (λ (a : Pattern). Var 0) (drop l._arg-index l.args) ≡ l.initial.terms.items ++ map (λ (a : Pattern). Var 0) l.args
