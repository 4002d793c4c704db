use Rattle.std.proofs.Common.{◌≡◌, drop}
use Rattle.std.specs.List.{list_all}
use Rattle.mp_schema.specs.Conditions.{has_all, context_names}
use Rattle.mp_schema.specs.Faults.{is_listed}
use Rattle.mp_schema.proofs.rule.is_rule_listed.Given as goal

abbrev pub invariant-loop-premise : goal.invariant-loop-premise
invariant-loop-premise l =
    (list_all is_listed (drop l.premise-index l.premises) ≡ list_all is_listed l.premises) ×
    (list_all (λ p. has_all (context_names l.concl) (context_names p)) (drop l.premise-index l.premises)
    ≡ list_all (λ p. has_all (context_names l.concl) (context_names p)) l.premises)
