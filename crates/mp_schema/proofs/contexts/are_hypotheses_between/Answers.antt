use Rattle.std.proofs.Common.{◌≡◌, ◌<◌, length, true, nat_eq, arith, sym, ap, ◌∙◌}
use Rattle.mp_schema.specs.Conditions.{item_between}
use Rattle.mp_schema.proofs.Befores.{before_at, before-next, contexts-ctx, contexts-hyp, walked-next}
use Rattle.mp_schema.proofs.contexts.are_hypotheses_between.Goals as goal
use Rattle.mp_schema.proofs.contexts.are_hypotheses_between.Goals.{in-Ctx, in-Hyp+else-contexts-ne1}

pub loop-item-preserved : goal.loop-item-preserved
loop-item-preserved c =
    let items = c.args.items.now in
    let i = c.loop-item.item-index in
    let item = c.item-item.result in
    let b = before_at items i in
    let inside : i < length items = omega arith in
    let next = ap (λ x. length x.contexts) (before-next items i item inside c.item-item.is) in
    elim c.match-item.branch [
      | in-Ctx w ↦
          let counted = next ∙ contexts-ctx item _ _ _ b w.in-Ctx.is in
          let walked = walked-next item_between items i item inside c.item-item.is c.loop-item.invariant.walked (ap (λ x. item_between x b) w.in-Ctx.is) in
          record { walked = walked; counted = omega arith; few = omega arith }
      | in-Hyp+else-contexts-ne1 w ↦
          let counted = next ∙ ap length (contexts-hyp item _ b w.in-Hyp.is) in
          let one : nat_eq (length b.contexts) 1 ≡ true = ap (λ n. nat_eq n 1) (sym c.loop-item.invariant.counted ∙ w.if-contexts-ne1.false) in
          let walked = walked-next item_between items i item inside c.item-item.is c.loop-item.invariant.walked (ap (λ x. item_between x b) w.in-Hyp.is ∙ one) in
          record { walked = walked; counted = omega arith; few = omega arith }
    ]
