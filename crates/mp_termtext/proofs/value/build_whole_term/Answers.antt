use Rattle.mp_termtext.proofs.Faultless.{whole_faultless}
use Rattle.mp_termtext.proofs.value.build_whole_term.Goals as goal

pub build_term-requires-clause-faultless : goal.build_term-requires-clause-faultless
build_term-requires-clause-faultless c = whole_faultless c.args.free c.args.raw.now c.new-env.result.items c.new-env.ensures.items c.requires.faultless
