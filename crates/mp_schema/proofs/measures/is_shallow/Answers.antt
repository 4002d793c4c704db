use Rattle.std.proofs.Common.{◌&&◌, ap, sym, ◌∙◌, rules}
use Rattle.std.proofs.lemmas.Iterator.{YieldsList-from_slice}
use Rattle.std.proofs.lemmas.Iterator.Search.{all_from_yields_List}
use Rattle.std.specs.List.{list_all}
use borrow.Author.Tests.{tests}
use Rattle.mp_schema.specs.Limits.{is_shallow_item, is_shallow_pattern}
use Rattle.mp_schema.proofs.measures.is_shallow.Goals as goal

pub returns-then-all : goal.returns-then-all
returns-then-all c =
    let all = all_from_yields_List is_shallow_item _ _ c.all.result c.all.ensures.ran (YieldsList-from_slice c.as_slice-items.result.now cc) (λ x b q k. search (rules, tests)) in
    c.is_pattern_shallow.ensures ∙ ap (λ b. b && is_shallow_pattern c.args.s.now.concl) (sym c.if-all.true ∙ all ∙ ap (list_all is_shallow_item) c.as_slice-items.ensures)
