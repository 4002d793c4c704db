use Rattle.std.proofs.Common.{◌≡◌, drop}
use Rattle.mp_schema.specs.Conditions.{has_all, contexts_among}
use Rattle.mp_schema.proofs.place.are_contexts.Given as goal

abbrev pub invariant-loop-name : goal.invariant-loop-name
invariant-loop-name l = has_all (contexts_among l.items) (drop l.name-index l.names) ≡ has_all (contexts_among l.items) l.names
