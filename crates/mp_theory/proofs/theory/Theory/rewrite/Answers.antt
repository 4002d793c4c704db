use Rattle.std.proofs.Common.{ap, ◌∙◌}
use Rattle.std.specs.Prelude.{option_and_then}
use Rattle.mp_theory.specs.Tables.{rewrite_in}
use Rattle.mp_theory.proofs.LookUps.{rewrite_whole}
use Rattle.mp_theory.proofs.theory.Theory.rewrite.Goals as goal

pub returns-in-Some : goal.returns-in-Some
returns-in-Some c = record {
  rewrite = c.as_rewrite.ensures ∙ ap (option_and_then rewrite_in) c.in-Some.ensures.law;
  whole = rewrite_whole c.in-Some.law.now c.as_rewrite.result c.in-Some.ensures.whole c.as_rewrite.ensures;
}
