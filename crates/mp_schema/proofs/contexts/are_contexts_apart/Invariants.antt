use Rattle.std.proofs.Common.{◌≡◌, drop}
use Rattle.mp_schema.specs.Conditions.{is_apart, contexts_among}
use Rattle.mp_schema.proofs.contexts.are_contexts_apart.Given as goal

abbrev pub invariant-loop-i : goal.invariant-loop-i
invariant-loop-i l = is_apart (contexts_among (drop l.i l.items)) ≡ is_apart (contexts_among l.items)
