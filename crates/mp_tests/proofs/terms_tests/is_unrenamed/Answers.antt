use Rattle.std.proofs.Common.{refl}
use Rattle.mp_tests.proofs.Terms.{distinct_two}
use Rattle.mp_tests.proofs.terms_tests.is_unrenamed.Goals as goal

pub unrenamed-requires-clause-distinct : goal.unrenamed-requires-clause-distinct
unrenamed-requires-clause-distinct c = rw c.in_ok-levels.ensures (distinct_two 2 0 refl)
