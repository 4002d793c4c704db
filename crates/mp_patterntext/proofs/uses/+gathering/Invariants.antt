use Rattle.std.proofs.Common.{◌≡◌, ◌++◌, drop, map}
use Rattle.std.specs.List.{flat_map}
use Rattle.mp_patterntext.specs.Places.{use_at}
use Rattle.mp_patterntext.specs.Uses.{uses_in, uses_in_bound}
use Rattle.mp_patterntext.proofs.uses.+gathering.Given as goal

abbrev pub invariant-gather_bound_uses-loop-sub : goal.invariant-gather_bound_uses-loop-sub
invariant-gather_bound_uses-loop-sub l = map use_at l.places ++ flat_map uses_in_bound (drop l.sub-index l.subs) ≡ map use_at l.fn.places ++ flat_map uses_in_bound l.subs

abbrev pub invariant-gather_argument_uses-loop-arg : goal.invariant-gather_argument_uses-loop-arg
invariant-gather_argument_uses-loop-arg l = map use_at l.places ++ flat_map uses_in (drop l.arg-index l.args) ≡ map use_at l.fn.places ++ flat_map uses_in l.args
