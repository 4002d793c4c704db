use Rattle.std.proofs.Common.{refl, ap, sym, ◌∙◌}
use Rattle.mp_words.specs.Faults.{least_from}
use Rattle.mp_patterntext.specs.Scopes.{syms_of}
use Rattle.mp_schematext.specs.Statics.{item_faults}
use Rattle.mp_schematext.proofs.FaultWalks.{context_parts}
use Rattle.mp_schematext.proofs.statics.check_item.Goals as goal

pub returns-in_ok-found-in-Ctx-clause-fault : goal.returns-in_ok-found-in-Ctx-clause-fault
returns-in_ok-found-in-Ctx-clause-fault c =
    let x = c.in-Ctx in
    context_parts (syms_of c.args.known.now) c.args.is_matched c.args.item.now x.name x.ctxs c.as_slice.result.now x.args c.as_slice-args.result.now x.at c.args.env.now.items c.args.held c.in_ok-held-in-Ctx.held c.in_ok-found-in-Ctx.found
    x.is c.as_slice.ensures c.as_slice-args.ensures c.in_ok-held-in-Ctx.ensures (c.in_ok-found-in-Ctx.ensures.fault 2 refl)

pub returns-in_ok-found-in-Hyp-clause-fault : goal.returns-in_ok-found-in-Hyp-clause-fault
returns-in_ok-found-in-Hyp-clause-fault c =
    c.in_ok-found-in-Hyp.ensures.fault 1 refl ∙ ap (λ i. least_from c.args.held (item_faults (syms_of c.args.known.now) c.args.is_matched i c.args.env.now.items)) (sym c.in-Hyp.is)
