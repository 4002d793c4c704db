use Rattle.mp_steptext.proofs.AllowedSteps.{given_faultless, given_made}
use Rattle.mp_steptext.proofs.term.GivenTermBody.build.Goals as goal

pub build_bound-requires-clause-faultless : goal.build_bound-requires-clause-faultless
build_bound-requires-clause-faultless c = given_faultless c.args._at c.args.raw.now c.new-env.result.items c.new-env.ensures.items c.requires

pub returns : goal.returns
returns c = given_made c.args.need.now c.args.raw.now c.new-env.result.items c.in_ok-bound.bound c.new-env.ensures.items c.in_ok-bound.ensures.value
