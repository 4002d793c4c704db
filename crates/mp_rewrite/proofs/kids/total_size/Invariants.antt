use Rattle.std.proofs.Common.{◌≡◌, ◌+◌, ◌<◌, ◌^◌, drop, sum_by}
use Rattle.mp_logic.specs.Trees.{counted}
use Rattle.mp_term.specs.Terms.{size_of}
use Rattle.mp_rewrite.proofs.kids.total_size.Given as goal

abbrev pub invariant-loop-t : goal.invariant-loop-t
invariant-loop-t l = (l.total < 2 ^ 64) × (counted (l.total + sum_by size_of (drop l.t-index l.terms)) ≡ counted (sum_by size_of l.terms))
