use Rattle.std.proofs.Common.{true, refl}
use Rattle.mp_schematext.specs.Scopes.{env_past}
use Rattle.mp_schematext.proofs.FaultWalks.{bound_next}
use Rattle.mp_schematext.proofs.Narrow.{first_item}
use Rattle.mp_schematext.proofs.ValueWalks.{items_built}
use Rattle.mp_schematext.proofs.value.build_items.Goals as goal

pub build_item-requires : goal.build_item-requires
build_item-requires c = record {
  faultless = (first_item c.args.items.now c.loop-raw.raw-index c.raw-item.result c.loop-raw.env.items (env_past c.raw-item.result c.loop-raw.env.items) c.loop-raw-test.true c.raw-item.is refl c.loop-raw.invariant.faultless).0;
}

pub loop-raw-preserved : goal.loop-raw-preserved
loop-raw-preserved c =
    let items = c.args.items.now in
    let i = c.loop-raw.raw-index in
    let raw = c.raw-item.result in
    let env = c.loop-raw.env.items in
    let behind = c.build_item.new.env.items in
    record {
      faultless = (first_item items i raw env behind c.loop-raw-test.true c.raw-item.is c.in_ok-item.ensures.env c.loop-raw.invariant.faultless).1;
      bound = bound_next true items i raw c.loop-raw-test.true c.raw-item.is env behind _ c.in_ok-item.ensures.env c.loop-raw.invariant.bound;
      built = items_built items i raw c.in_ok-item.item c.loop-raw.built c.push.new.self _ env behind c.loop-raw-test.true c.raw-item.is c.in_ok-item.ensures.env c.in_ok-item.ensures.value c.in_default.ensures.ok c.loop-raw.invariant.built;
    }
