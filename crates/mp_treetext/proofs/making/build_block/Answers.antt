use Rattle.mp_treetext.proofs.Faultless.{failure_part}
use Rattle.mp_treetext.proofs.making.build_block.Goals as goal

pub build_failure-requires : goal.build_failure-requires
build_failure-requires c = failure_part c.args.theory.now c.args.source.now c.args.raw.now c.in-Failed.failure c.in-Failed.is c.requires.faultless
