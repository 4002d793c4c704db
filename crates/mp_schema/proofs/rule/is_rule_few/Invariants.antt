use Rattle.std.proofs.Common.{◌≡◌, drop}
use Rattle.std.specs.List.{list_all}
use Rattle.mp_schema.specs.Limits.{few_of_schema}
use Rattle.mp_schema.proofs.rule.is_rule_few.Given as goal

abbrev pub invariant-loop-premise : goal.invariant-loop-premise
invariant-loop-premise l = list_all few_of_schema (drop l.premise-index l.premises) ≡ list_all few_of_schema l.premises
