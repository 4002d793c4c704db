use Rattle.std.proofs.Common.{◌≡◌, drop, map}
use Rattle.mp_words.specs.Words.{spelled}
use Rattle.mp_treetext.specs.Kinds.{kind_row}
use Rattle.mp_treetext.proofs.kind.kind_in.Given as goal

abbrev pub invariant-loop-row : goal.invariant-loop-row
invariant-loop-row l = spelled (map kind_row (drop l.row-index l.table)) l.name ≡ spelled (map kind_row l.table) l.name
