use Rattle.std.proofs.Common.{None}
use Rattle.mp_treetext.proofs.Faultless.{contents_faultless}
use Rattle.mp_treetext.proofs.making.build_proof.Goals as goal

pub build_lines-requires-clause-faultless : goal.build_lines-requires-clause-faultless
build_lines-requires-clause-faultless c = contents_faultless c.args.theory.now c.args.source.now None c.args.raws.now c.requires.faultless
