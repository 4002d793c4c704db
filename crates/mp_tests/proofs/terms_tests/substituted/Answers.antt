use Rattle.std.proofs.Common.{◌≡◌, ◌<◌, length, IsTrue, arith, rules}
use Rattle.mp_term.specs.Terms.{in_scope_of}
use Rattle.mp_term.specs.Subst.{widest_of}
use Rattle.mp_tests.proofs.Terms.{each_in_scope, each_narrow, made_narrow}
use Rattle.mp_tests.proofs.terms_tests.substituted.Goals as goal

pub substitute-requires-clause-by_scoped : goal.substitute-requires-clause-by_scoped
substitute-requires-clause-by_scoped c = each_in_scope _ _ (λ k d h. c.loop-term.invariant.scoped k d (omega arith))

pub substitute-requires-clause-made_narrow : goal.substitute-requires-clause-made_narrow
substitute-requires-clause-made_narrow c =
    let a = c.args in
    let wide = each_narrow a.m a.by.now 5000 (omega arith) (λ k d h. c.loop-term.invariant.narrow k d (omega arith)) in
    let count : length a.by.now ≡ a.n = search rules in
    let scoped : IsTrue (in_scope_of a.t.now a.n) = search rules in
    let narrow : widest_of a.t.now a.n < 5000 = search rules in
    made_narrow a.m a.n a.by.now a.t.now count scoped narrow wide
