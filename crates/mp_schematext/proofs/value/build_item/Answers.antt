use Rattle.mp_schematext.proofs.Narrow.{context_faultless}
use Rattle.mp_schematext.proofs.value.build_item.Goals as goal

pub build_args-requires : goal.build_args-requires
build_args-requires c = record {
  faultless = context_faultless c.args.raw.now c.in-Ctx.name c.in-Ctx.ctxs c.in-Ctx.args c.as_slice-in-Ctx.result.now c.in-Ctx.at c.args.env.now.items c.in-Ctx.is c.as_slice-in-Ctx.ensures c.requires.faultless;
}
