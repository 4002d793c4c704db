use Rattle.std.proofs.Common.{◌≡◌, ◌++◌, take}
use Rattle.mp_rewrite.proofs.put.push_terms.Given as goal

abbrev pub invariant-loop-t : goal.invariant-loop-t
invariant-loop-t l = l.copies ≡ l.fn.copies ++ take l.t-index l.terms
