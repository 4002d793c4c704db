use Rattle.std.proofs.Common.{◌+◌, ◌-◌, ◌<◌, ◌≤◌, length, arith}
use Rattle.mp_term.specs.declared.term.Term.{Var}
use Rattle.mp_subst.proofs.Replacing.{low_narrow, high_narrow}
use Rattle.mp_subst.proofs.substitution.substitute_variable.Goals as goal

pub weaken-requires-clause-narrow : goal.weaken-requires-clause-narrow
weaken-requires-clause-narrow c =
    let a = c.args in
    low_narrow a.by.now a.m (a.scope - a.n) a.level _ (Var a.level) c.index-by-level.result (omega arith) c.index-by-level.is c.requires.made_narrow

pub overflow_add-result : goal.overflow_add-result
overflow_add-result c =
    let a = c.args in
    let low : length a.by.now ≤ a.level = omega arith in
    let high : a.level < length a.by.now + (a.scope - a.n) = omega arith in
    let fits = high_narrow a.by.now a.m (a.scope - a.n) a.level _ (Var a.level) low high c.requires.made_narrow in
    omega (arith, fits)
