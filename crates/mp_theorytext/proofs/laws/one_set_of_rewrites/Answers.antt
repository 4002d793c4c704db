use Rattle.mp_theorytext.proofs.RewriteTells as rewrites
use Rattle.mp_theorytext.proofs.laws.one_set_of_rewrites.Goals as goal

pub returns : goal.returns
returns c = rewrites.one_set_of_rewrites
