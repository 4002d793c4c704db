use Rattle.std.proofs.Common.{◌≡◌, ◌++◌, drop, map}
use Rattle.std.specs.List.{flat_map}
use Rattle.mp_patterntext.specs.Places.{use_at}
use Rattle.mp_schematext.specs.Uses.{uses_in_item}
use Rattle.mp_schematext.proofs.uses.gather_schema.Given as goal

abbrev pub invariant-loop-item : goal.invariant-loop-item
invariant-loop-item l = map use_at l.places ++ flat_map uses_in_item (drop l.item-index l.item-items) ≡ map use_at l.fn.places ++ flat_map uses_in_item l.item-items
