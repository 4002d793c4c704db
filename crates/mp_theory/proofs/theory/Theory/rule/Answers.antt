use Rattle.std.proofs.Common.{ap, ◌∙◌}
use Rattle.std.specs.Prelude.{option_and_then}
use Rattle.mp_theory.specs.Tables.{rule_in}
use Rattle.mp_theory.proofs.LookUps.{rule_whole}
use Rattle.mp_theory.proofs.theory.Theory.rule.Goals as goal

pub returns-in-Some : goal.returns-in-Some
returns-in-Some c = record {
  rule = c.as_rule.ensures ∙ ap (option_and_then rule_in) c.in-Some.ensures.law;
  whole = rule_whole c.in-Some.law.now c.as_rule.result c.in-Some.ensures.whole c.as_rule.ensures;
}
