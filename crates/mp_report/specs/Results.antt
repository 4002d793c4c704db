-- The text that is printed of a goal's outcome, which stands beside the text of trees.
pub use Rattle.mp_treetext.specs.Results.{result_text}
