use Rattle.std.proofs.Common.{◌-◌, ◌^◌, ap, sym, subst, ◌∙◌, arith}
use Rattle.std.specs.List.{flat_map}
use Rattle.mp_treetext.specs.Few.{EachFew}
use Rattle.mp_treetext.specs.Statics.{block_faults}
use Rattle.mp_treetext.proofs.Faultless.{nil_at}
use Rattle.mp_treetext.proofs.FewFacts.{few_at}
use Rattle.mp_treetext.proofs.making.build_file.Goals as goal

pub build_block-requires-clause-faultless : goal.build_block-requires-clause-faultless
build_block-requires-clause-faultless c =
    let f = block_faults c.args.theory.now c.args.source.now in
    nil_at f c.as_slice-raw-items.result.now c.loop-raw.raw-index c.raw-item.result c.loop-raw-test.true c.raw-item.is (ap (flat_map f) c.as_slice-raw-items.ensures ∙ c.requires.faultless)

pub build_block-requires-clause-few : goal.build_block-requires-clause-few
build_block-requires-clause-few c =
    let few = few_at (2 ^ 32 - 1) c.as_slice-raw-items.result.now c.loop-raw.raw-index c.raw-item.result c.loop-raw-test.true c.raw-item.is (subst (EachFew (2 ^ 32 - 1)) (sym c.as_slice-raw-items.ensures) c.requires.few) in
    omega (arith, few)
