use Rattle.std.proofs.Common.{◌≡◌, ◌++◌, take}
use Rattle.mp_delay.proofs.making.push_copies.Given as goal

abbrev pub invariant-loop-kid : goal.invariant-loop-kid
invariant-loop-kid l = l.copies ≡ l.fn.copies ++ take l.kid-index l.kids
