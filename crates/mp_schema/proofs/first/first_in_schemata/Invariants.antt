use Rattle.std.proofs.Common.{◌≡◌, drop}
use Rattle.std.specs.List.{flat_map}
use Rattle.mp_schema.specs.Occurrences.{occurrences_in_schema, first_named}
use Rattle.mp_schema.proofs.first.first_in_schemata.Given as goal

abbrev pub invariant-loop-s : goal.invariant-loop-s
invariant-loop-s l =
    first_named (flat_map occurrences_in_schema (drop l.s-index l.schemata)) l.name ≡ first_named (flat_map occurrences_in_schema l.schemata) l.name
