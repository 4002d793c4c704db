use Rattle.std.proofs.Common.{◌≡◌, take}
use Rattle.mp_eval.proofs.queue.waiting_of.Given as goal

abbrev pub invariant-loop-part : goal.invariant-loop-part
invariant-loop-part l = l.copies ≡ take l.part-index l.parts
