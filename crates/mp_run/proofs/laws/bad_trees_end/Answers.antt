use Rattle.mp_run.proofs.BadTrees.{bad_trees_end}
use Rattle.mp_run.proofs.laws.bad_trees_end.Goals as goal

pub returns : goal.returns
returns c = bad_trees_end
