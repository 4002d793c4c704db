use Rattle.std.proofs.Common.{map, drop}
use Rattle.mp_theory.specs.Needs.{all_uses, uses_of, uses_bound}
use Rattle.mp_theory.proofs.Gathered.{IsOnTheWay}
use Rattle.mp_theory.proofs.needs.+gathering.Given as goal

abbrev pub invariant-gather_arguments-loop-arg : goal.invariant-gather_arguments-loop-arg
invariant-gather_arguments-loop-arg l =
    IsOnTheWay l.fn.met l.fn.held (all_uses (map uses_of l.args)) l.met l.held (all_uses (map uses_of (drop l.arg-index l.args)))

abbrev pub invariant-gather_bodies-loop-sub : goal.invariant-gather_bodies-loop-sub
invariant-gather_bodies-loop-sub l =
    IsOnTheWay l.fn.met l.fn.held (all_uses (map uses_bound l.subs)) l.met l.held (all_uses (map uses_bound (drop l.sub-index l.subs)))
