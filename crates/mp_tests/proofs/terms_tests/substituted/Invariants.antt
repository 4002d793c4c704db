use Rattle.std.proofs.Common.{ℕ, ◌<◌, get_or, IsTrue}
use Rattle.mp_term.specs.Terms.{in_scope_of}
use Rattle.mp_term.specs.Subst.{widest_of}
use Rattle.mp_tests.proofs.terms_tests.substituted.Given as goal

abbrev pub invariant-loop-term : goal.invariant-loop-term
invariant-loop-term l = record {
  scoped : (k : ℕ) (d : _) → k < l.term-index → IsTrue (in_scope_of (get_or l.by k d) l.m);
  narrow : (k : ℕ) (d : _) → k < l.term-index → widest_of (get_or l.by k d) l.m < 5000;
}
