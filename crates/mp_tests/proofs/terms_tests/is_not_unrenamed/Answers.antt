use Rattle.mp_tests.proofs.Terms.{distinct_one}
use Rattle.mp_tests.proofs.terms_tests.is_not_unrenamed.Goals as goal

pub unrenamed-requires-clause-distinct : goal.unrenamed-requires-clause-distinct
unrenamed-requires-clause-distinct c = rw c.in_ok-levels.ensures (distinct_one 2)
