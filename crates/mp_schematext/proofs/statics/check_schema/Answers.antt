use Rattle.std.proofs.Common.{refl, sym}
use Rattle.mp_schematext.specs.Statics.{raw_schema_size_of}
use Rattle.mp_schematext.proofs.FaultWalks.{schema_parts}
use Rattle.mp_schematext.proofs.statics.check_schema.Goals as goal

pub returns : goal.returns
returns c =
    schema_parts c.args.is_matched c.args.raw.now c.as_slice-items.result.now c.as_slice.result.now c.as_slice-2.result.now c.in_ok-known.known.items c.new-env.result.items c.check_items.new.env.items c.args.held c.check_item_count-held.result
    c.check_apart-held.result c.in_ok-held.held c.in_ok-held-2.held c.check_size.result c.as_slice-items.ensures c.in_ok-known.ensures c.as_slice.ensures.value c.as_slice-2.ensures.value c.new-env.ensures.items c.check_item_count-held.ensures
    c.check_apart-held.ensures c.in_ok-held.ensures.fault c.in_ok-held.ensures.env (c.in_ok-held-2.ensures.fault 1 refl) (c.check_size.ensures (raw_schema_size_of c.args.raw.now) (sym c.schema_size.ensures))
