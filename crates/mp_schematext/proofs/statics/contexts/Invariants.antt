use Rattle.std.proofs.Common.{◌≡◌, ◌++◌, drop}
use Rattle.std.specs.List.{flat_map}
use Rattle.mp_schematext.specs.Scopes.{context_in, contexts_of}
use Rattle.mp_schematext.proofs.statics.contexts.Given as goal

abbrev pub invariant-loop-item : goal.invariant-loop-item
invariant-loop-item l = l.known.items ++ flat_map context_in (drop l.item-index l.item-items) ≡ contexts_of l.raw
