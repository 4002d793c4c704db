use Rattle.std.proofs.Common.{◌≡◌, ◌++◌, drop}
use Rattle.mp_termtext.specs.Statics.{names_of}
use Rattle.mp_termtext.proofs.scope.push_names.Given as goal

abbrev pub invariant-loop-binder : goal.invariant-loop-binder
invariant-loop-binder l = l.env.items ++ names_of (drop l.binder-index l.binders) ≡ l.fn.env.items ++ names_of l.binders
