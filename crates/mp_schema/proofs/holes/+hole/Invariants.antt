use Rattle.std.proofs.Common.{◌≡◌, drop}
use Rattle.std.specs.List.{flat_map}
use Rattle.mp_schema.specs.Conditions.{has}
use Rattle.mp_schema.specs.Occurrences.{holes_in, holes_in_bound}
use Rattle.mp_schema.proofs.holes.+hole.Given as goal

abbrev pub invariant-has_argument_hole-loop-arg : goal.invariant-has_argument_hole-loop-arg
invariant-has_argument_hole-loop-arg l = has (flat_map holes_in (drop l.arg-index l.args)) l.name ≡ has (flat_map holes_in l.args) l.name

abbrev pub invariant-has_body_hole-loop-sub : goal.invariant-has_body_hole-loop-sub
invariant-has_body_hole-loop-sub l = has (flat_map holes_in_bound (drop l.sub-index l.subs)) l.name ≡ has (flat_map holes_in_bound l.subs) l.name
