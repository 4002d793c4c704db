use Rattle.std.proofs.Common.{sym, ◌∙◌, arith}
use Rattle.mp_schema.specs.Occurrences.{occurrences_in, occurrences_in_item}
use Rattle.mp_schema.proofs.Finding.{found_before, not_before}
use Rattle.mp_schema.proofs.first.first_in_schema.Goals as goal

pub returns-in-Some : goal.returns-in-Some
returns-in-Some c =
    let items = c.as_slice-item-items.result.now in
    let here = found_before occurrences_in_item items c.loop-item.item-index c.item-item.result c.args.name (omega arith) c.item-item.is in
    sym (here (occurrences_in c.args.s.now.concl) _ c.in-Some.ensures) ∙ c.loop-item.invariant

pub loop-item-preserved : goal.loop-item-preserved
loop-item-preserved c =
    let items = c.as_slice-item-items.result.now in
    let none = not_before occurrences_in_item items c.loop-item.item-index c.item-item.result c.args.name (omega arith) c.item-item.is in
    sym (none (occurrences_in c.args.s.now.concl) _ c.first_in_item.ensures c.in_default.is) ∙ c.loop-item.invariant
