use Rattle.std.proofs.Common.{◌≡◌, ◌++◌, drop, map}
use Rattle.std.specs.List.{flat_map}
use Rattle.mp_patterntext.specs.Places.{use_at}
use Rattle.mp_schematext.specs.Uses.{uses_in_schema}
use Rattle.mp_schematext.proofs.uses.check_rule_uses.Given as goal

abbrev pub invariant-loop-premise : goal.invariant-loop-premise
invariant-loop-premise l = map use_at l.places ++ flat_map uses_in_schema (drop l.premise-index l.premise-items) ≡ flat_map uses_in_schema l.premise-items
