use Rattle.std.proofs.Common.{take, ◌&&◌, arith, sym, ap, ◌∙◌}
use Rattle.mp_schema.specs.Conditions.{past_all, nothing_before, each_item}
use Rattle.mp_schema.specs.Occurrences.{occurrences_in, occurrences_in_item}
use Rattle.mp_schema.specs.Faults.{item_listed, all_listed}
use Rattle.mp_schema.proofs.Befores.{all_listed-items, walked-next, walked-fails, walked-end}
use Rattle.mp_schema.proofs.contexts.is_schema_listed.Goals as goal

pub loop-i-preserved : goal.loop-i-preserved
loop-i-preserved c =
    let items = c.as_slice-items.result.now in
    let item = c.index-items-i.result in
    let same = all_listed-items (take c.loop-i.i items) (occurrences_in_item item) in
    walked-next item_listed items c.loop-i.i item (omega arith) c.index-items-i.is c.loop-i.invariant (sym same ∙ (sym c.item_keeps.ensures ∙ c.if-not-item_keeps.false))

pub returns-then-not-item_keeps : goal.returns-then-not-item_keeps
returns-then-not-item_keeps c =
    let s = c.args.s.now in
    let items = c.as_slice-items.result.now in
    let item = c.index-items-i.result in
    let same = all_listed-items (take c.loop-i.i items) (occurrences_in_item item) in
    let fails = walked-fails item_listed items c.loop-i.i item (omega arith) c.index-items-i.is c.loop-i.invariant (sym same ∙ (sym c.item_keeps.ensures ∙ c.if-not-item_keeps.true)) in
    let whole = ap (λ xs. each_item item_listed xs nothing_before) (sym c.as_slice-items.ensures) ∙ fails in
    sym (ap (λ t. t && all_listed (past_all s.items nothing_before).contexts (occurrences_in s.concl)) whole)

pub returns : goal.returns
returns c =
    let s = c.args.s.now in
    let items = c.as_slice-items.result.now in
    let all = walked-end item_listed items c.loop-i.i (omega arith) c.loop-i.invariant in
    let same = all_listed-items items (occurrences_in s.concl) in
    let concl = c.pattern_keeps.ensures ∙ same ∙ ap (λ t. t && all_listed (past_all items nothing_before).contexts (occurrences_in s.concl)) (sym all) in
    concl ∙ ap (λ xs. each_item item_listed xs nothing_before && all_listed (past_all xs nothing_before).contexts (occurrences_in s.concl)) c.as_slice-items.ensures
