use Rattle.std.proofs.Common.{◌≡◌, ◌++◌, take}
use Rattle.mp_rewrite.proofs.put.push_bounds.Given as goal

abbrev pub invariant-loop-sub : goal.invariant-loop-sub
invariant-loop-sub l = l.copies ≡ l.fn.copies ++ take l.sub-index l.subs
