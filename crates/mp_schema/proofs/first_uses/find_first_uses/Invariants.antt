use Rattle.std.proofs.Common.{drop}
use Rattle.std.specs.List.{flat_map}
use Rattle.mp_schema.specs.Occurrences.{occurrences_in_schema}
use Rattle.mp_schema.proofs.Entering.{IsOnTheWay}
use Rattle.mp_schema.proofs.first_uses.find_first_uses.Given as goal

abbrev pub invariant-loop-premise : goal.invariant-loop-premise
invariant-loop-premise l =
    IsOnTheWay l.initial.uses (flat_map occurrences_in_schema l.premises) l.uses (flat_map occurrences_in_schema (drop l.premise-index l.premises))
