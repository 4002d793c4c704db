use Rattle.mp_words.specs.Texts.{table_after}
use Rattle.mp_words.proofs.Answering.{one_text}
use Rattle.mp_treetext.specs.Grammar.{file}
use Rattle.mp_treetext.specs.Reading.{tree_passes}
use Rattle.mp_treetext.specs.Values.{file_value}
use Rattle.mp_treetext.proofs.laws.one_trees_text.Goals as goal

pub returns : goal.returns
returns c = record {
  one_value = λ t goals names source. (one_text (file (table_after names source)) (tree_passes t goals) (file_value t source)).one_value names source;
  apart = λ t goals names source. (one_text (file (table_after names source)) (tree_passes t goals) (file_value t source)).apart names source;
  one_fault = λ t goals names source. (one_text (file (table_after names source)) (tree_passes t goals) (file_value t source)).one_fault names source;
}
