use Rattle.std.proofs.Common.{map, drop}
use Rattle.mp_theory.specs.Needs.{all_uses, schema_uses}
use Rattle.mp_theory.proofs.Gathered.{IsOnTheWay}
use Rattle.mp_theory.proofs.needs.gather_premises.Given as goal

abbrev pub invariant-loop-premise : goal.invariant-loop-premise
invariant-loop-premise l =
    IsOnTheWay l.fn.met l.fn.held (all_uses (map schema_uses l.premises)) l.met l.held (all_uses (map schema_uses (drop l.premise-index l.premises)))
