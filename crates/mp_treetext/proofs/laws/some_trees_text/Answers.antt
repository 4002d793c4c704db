use Rattle.mp_words.specs.Texts.{table_after}
use Rattle.mp_words.proofs.Answering.{some_text}
use Rattle.mp_treetext.specs.Grammar.{file}
use Rattle.mp_treetext.specs.Reading.{tree_passes}
use Rattle.mp_treetext.specs.Values.{file_value}
use Rattle.mp_treetext.proofs.laws.some_trees_text.Goals as goal

pub returns : goal.returns
returns c = λ t goals names source. some_text (file (table_after names source)) (tree_passes t goals) (file_value t source) names source
