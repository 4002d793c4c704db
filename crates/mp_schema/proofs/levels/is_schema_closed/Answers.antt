use Rattle.std.proofs.Common.{◌<◌, length, min, arith, sym, ap, ◌∙◌}
use Rattle.mp_schema.specs.Faults.{item_closed}
use Rattle.mp_schema.proofs.Befores.{before_at, before-next, named-hyp, named-other, walked-next}
use Rattle.mp_schema.proofs.levels.is_schema_closed.Goals as goal
use Rattle.mp_schema.proofs.levels.is_schema_closed.Goals.{in-Hyp, in_default}

pub loop-item-preserved : goal.loop-item-preserved
loop-item-preserved c =
    let items = c.as_slice-item-items.result.now in
    let i = c.loop-item.item-index in
    let item = c.item-item.result in
    let b = before_at items i in
    let inside : i < length items = omega arith in
    let next = ap (λ x. x.named) (before-next items i item inside c.item-item.is) in
    let closed = c.is_item_closed.ensures b (ap (λ n. min n 4294967296) (sym c.loop-item.invariant.named) ∙ sym c.min.ensures) in
    let walked = walked-next item_closed items i item inside c.item-item.is c.loop-item.invariant.walked (sym closed ∙ c.if-not-is_item_closed.false) in
    elim c.match-item.branch [
      | in-Hyp w ↦ let named = next ∙ named-hyp item w.in-Hyp.field-0 b w.in-Hyp.is in record { walked = walked; named = omega arith; few = omega arith }
      | in_default w ↦ let named = next ∙ named-other item b w.in_default.not-Hyp in record { walked = walked; named = omega arith; few = omega arith }
    ]
