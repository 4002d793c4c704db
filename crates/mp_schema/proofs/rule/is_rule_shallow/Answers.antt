use Rattle.std.proofs.Common.{◌&&◌, ap, sym, ◌∙◌, rules}
use Rattle.std.proofs.lemmas.Iterator.{YieldsList-from_slice}
use Rattle.std.proofs.lemmas.Iterator.Search.{all_from_yields_List}
use borrow.Author.Tests.{tests}
use Rattle.mp_schema.specs.Limits.{is_shallow_schema}
use Rattle.mp_schema.specs.Faults.{rule_is_shallow}
use Rattle.mp_schema.proofs.rule.is_rule_shallow.Goals as goal

pub returns-then-all : goal.returns-then-all
unfolding rule_is_shallow
returns-then-all c =
    let all = all_from_yields_List is_shallow_schema _ _ c.all.result c.all.ensures.ran (YieldsList-from_slice c.args.premises.now cc) (λ x b q k. search (rules, tests)) in
    c.is_shallow.ensures ∙ ap (λ b. b && is_shallow_schema c.args.concl.now) (sym c.if-all.true ∙ all)
