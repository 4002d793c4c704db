use Rattle.std.proofs.Common.{ap, ◌∙◌}
use Rattle.mp_words.specs.Faults.{least_from}
use Rattle.mp_schematext.specs.Scopes.{env_past}
use Rattle.mp_patterntext.specs.Scopes.{syms_of}
use Rattle.mp_schematext.specs.Statics.{item_faults}
use Rattle.mp_schematext.proofs.FaultWalks.{bound_next, items_next}
use Rattle.mp_schematext.proofs.statics.check_items.Goals as goal

pub loop-item-preserved : goal.loop-item-preserved
loop-item-preserved c =
    let items = c.args.items.now in
    let i = c.loop-item.item-index in
    let x = c.item-item.result in
    let final = c.args.is_matched in
    let env = c.loop-item.env.items in
    let bound = c.in_ok-push_name.ensures ∙ ap (env_past x) c.in_ok-held.ensures.env in
    let found = c.in_ok-held.ensures.fault ∙ ap (λ ns. least_from c.loop-item.held (item_faults (syms_of ns) final x env)) c.as_slice.ensures.value in
    record {
      bound = bound_next final items i x c.loop-item-test.true c.item-item.is env c.push_name.new.env.items _ bound c.loop-item.invariant.bound;
      found = items_next final items i x c.loop-item-test.true c.item-item.is c.loop-item.known.items c.push_context.new.known.items env c.push_name.new.env.items c.loop-item.held c.in_ok-held.held _ found c.in_ok-push_context.ensures bound c.loop-item.invariant.found;
    }
