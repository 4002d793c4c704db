use Rattle.mp_treetext.proofs.ReadFiles.{read_good}
use Rattle.mp_treetext.proofs.laws.read_trees_are_good.Goals as goal

pub returns : goal.returns
returns c = read_good
