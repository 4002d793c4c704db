use Rattle.mp_treetext.proofs.ReadFiles.{read_printed}
use Rattle.mp_treetext.proofs.laws.read_trees_are_printed.Goals as goal

pub returns : goal.returns
returns c = read_printed
